-- Each contract fixes the answer (wire's Determined.antt): two results of a call that stand for one answer are the same result.
use mathlib.Core.Path.{◌≡◌, refl, sym, ap, ◌∙◌}
use Rattle.std.specs.Prelude.{Result, Ok, Err}
use Rattle.wire.specs.Answer.Ans.{done, need, hickup, broken}
use Rattle.wire.specs.declared.Got.{Got}
use Rattle.wire.proofs.Determined.{reason_of, reason_back}
use Rattle.parse.specs.Message.{Answer}
use Rattle.parse.specs.Message.Answer.{bad_filter, retired_tag, answered}
use Rattle.parse.specs.Refusal.{refusal_ans}
use Rattle.parse.specs.declared.Refusal.{Refusal}

-- what is had back from its answer is fixed by it: two that stand for one answer are the same
pub judged_once : {A R : Type 0} (ans : R → Answer A) (back : Answer A → R) → ((r : R) → back (ans r) ≡ r) → {r r' : R} {x : Answer A} → ans r ≡ x → ans r' ≡ x → r ≡ r'
judged_once ans back again {r} {r'} e f = sym (again r) ∙ ap back (e ∙ sym f) ∙ again r'

module _ {A : Type 0} where
  -- a result, had back from the answer
  abbrev refused : Answer A → Result (Got A) Refusal
  refused bad_filter = Err Refusal.BadFilter
  refused retired_tag = Err Refusal.RetiredTag
  refused (answered (done a e)) = Ok (record { v = a; next = e })
  refused (answered (need m)) = Err (Refusal.Need m)
  refused (answered (hickup r)) = Err (Refusal.Hickup (reason_of r))
  refused (answered broken) = Err Refusal.Broken

  refusal_back : (r : Result (Got A) Refusal) → refused (refusal_ans r) ≡ r
  refusal_back (Ok g) = refl
  refusal_back (Err Refusal.BadFilter) = refl
  refusal_back (Err Refusal.RetiredTag) = refl
  refusal_back (Err (Refusal.Need n)) = refl
  refusal_back (Err (Refusal.Hickup r)) = ap (λ q. Err (Refusal.Hickup q)) (reason_back r)
  refusal_back (Err Refusal.Broken) = refl

  -- of every call that is given a filter's bytes
  pub refusal_determined : {r r' : Result (Got A) Refusal} {x : Answer A} → refusal_ans r ≡ x → refusal_ans r' ≡ x → r ≡ r'
  refusal_determined = judged_once refusal_ans refused refusal_back
