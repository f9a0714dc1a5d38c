-- The contract fixes the answer (wire's Determined.antt). There is no Need, so its place is taken by a reason.
use Prim.Native.Nat.{ℕ}
use mathlib.Core.Path.{◌≡◌, refl, ap}
use Rattle.std.specs.Prelude.{Result, Ok, Err}
use Rattle.wire.specs.Answer.{Ans}
use Rattle.wire.specs.declared.Reason.{Reason}
use Rattle.wire.proofs.Determined.{one_answer, back, reason_of, reason_back}
use Rattle.signals.specs.Signals.{construct_ans}
use Rattle.signals.specs.declared.Constructed.{Constructed}

construct_back : (r : Result Constructed Reason) → back (λ a b. Ok (record { count = a; used = b })) (λ n. Err (reason_of n)) (λ n. Err (reason_of n)) (construct_ans r) ≡ r
construct_back (Ok g) = refl
construct_back (Err r) = ap Err (reason_back r)

pub construct_determined : {r r' : Result Constructed Reason} {x : Ans ℕ} → construct_ans r ≡ x → construct_ans r' ≡ x → r ≡ r'
construct_determined = one_answer construct_ans (λ a b. Ok (record { count = a; used = b })) (λ n. Err (reason_of n)) (λ n. Err (reason_of n)) construct_back
