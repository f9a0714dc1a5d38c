-- The contract fixes the answer and the table. Assumes nothing.
use mathlib.Core.Path.{◌≡◌, sym, ap, ◌∙◌}
use mathlib.Core.List.{List}
use Rattle.index.specs.Index.{Outcome}
use Rattle.index.specs.declared.Indexed.{Indexed}

pub index_determined : {A : Type 0} {x : Outcome A} {r r' : Indexed} {T T' : List A} → x ≡ record { answer = r; table = T } → x ≡ record { answer = r'; table = T' } → (r ≡ r') × (T ≡ T')
index_determined {A} e e' = (ap (λ (o : Outcome A). o.answer) (sym e ∙ e'), ap (λ (o : Outcome A). o.table) (sym e ∙ e'))
