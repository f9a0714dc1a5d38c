-- The same of the calls as their contracts state them: with the filter's bytes, of which it is not known that they are good.
--     calls-beside   beside each answer of the confined call, what `dlt_message` answers (`BesideCall`)
--     call-own       a value that ends within the first bytes is given by them alone
-- Assumes nothing.
use Prim.Native.Nat.{ℕ, ◌≤◌}
use native.Mathlib.Omega.{arith}
use mathlib.Core.Path.{◌≡◌, refl, ap}
use mathlib.Core.Bool.{Bool}
use mathlib.Core.List.{List, ◌++◌}
use lib.ListN.{length}
use Rattle.wire.specs.Answer.Ans.{done}
use Rattle.filter.specs.Filter.{filter_of}
use Rattle.filter.specs.declared.FilterError.{FilterError}
use Rattle.filter.specs.declared.Filter.{Filter}
use Rattle.std.specs.Prelude.{Result, Ok, Err}
use Rattle.parse.specs.Message.{Answer, message, judged, message_of}
use Rattle.confined.specs.Confined.{confined_message_of, confined_message_of_lem}
use Rattle.confined.specs.declared.ConfinedMessage.{ConfinedMessage}
use Rattle.owned.specs.Beside.{BesideCall}
use Rattle.owned.proofs.Own.{value_own}
use Rattle.owned.proofs.Beside.{beside}

module _ (f : List ℕ) (t : Bool) (s : List ℕ) where
  pub calls_beside : BesideCall (confined_message_of_lem f t s) (message_of f t s)
  unfolding confined_message_of_lem message_of judged
  calls_beside = by (filter_of f)
    where
      by : (v : Result Filter FilterError) → BesideCall (judged (λ filter. confined_message_of f filter t s 0) v) (judged (λ filter. message f filter t s 0) v)
      by (Ok filter) = (message f filter t s 0, refl, beside f filter t s)
      by (Err FilterError.Retired) = refl
      by (Err FilterError.Bad) = refl

  pub call_own : (u : List ℕ) (c : ConfinedMessage) (e : ℕ) → confined_message_of_lem f t (s ++ u) ≡ Answer.answered (done c e) → e ≤ length s → confined_message_of_lem f t s ≡ Answer.answered (done c e)
  unfolding confined_message_of_lem judged
  call_own u c e q w = by (filter_of f) q
    where
      by : (v : Result Filter FilterError) → judged (λ filter. confined_message_of f filter t (s ++ u) 0) v ≡ Answer.answered (done c e) → judged (λ filter. confined_message_of f filter t s 0) v ≡ Answer.answered (done c e)
      by (Ok filter) g =
          let z : confined_message_of f filter t (s ++ u) 0 ≡ done c e = cc in
          ap Answer.answered (value_own f filter t s u c e z w)
      by (Err FilterError.Retired) g = let z : ◌≡◌ {A = ℕ} 0 1 = cc in absurd (omega arith)
      by (Err FilterError.Bad) g = let z : ◌≡◌ {A = ℕ} 0 1 = cc in absurd (omega arith)
