-- Each contract fixes what a call answers and what it leaves in the slice that it was lent.
use Prim.Native.Nat.{ℕ}
use mathlib.Core.Path.{◌≡◌, sym, ap, ◌∙◌}
use mathlib.Core.List.{List}
use Rattle.exports.specs.Calls.{Outcome, IndexOutcome}
use Rattle.exports.specs.declared.Answer.{Answer}
use Rattle.exports.specs.declared.IndexAnswer.{IndexAnswer}

-- answer and lent slice
pub call_determined : {x : Outcome} {r r' : Answer} {T T' : List ℕ} → x ≡ record { answer = r; out = T } → x ≡ record { answer = r'; out = T' } → (r ≡ r') × (T ≡ T')
call_determined e e' = (ap (λ (o : Outcome). o.answer) (sym e ∙ e'), ap (λ (o : Outcome). o.out) (sym e ∙ e'))

pub index_call_determined : {x : IndexOutcome} {r r' : IndexAnswer} {T T' : List ℕ} → x ≡ record { answer = r; table = T } → x ≡ record { answer = r'; table = T' } → (r ≡ r') × (T ≡ T')
index_call_determined e e' = (ap (λ (o : IndexOutcome). o.answer) (sym e ∙ e'), ap (λ (o : IndexOutcome). o.table) (sym e ∙ e'))
