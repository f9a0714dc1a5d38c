-- The two facts of `confined_message` as its contract states it, in both modes and under every filter. Assumes nothing.
use Prim.Native.Nat.{ℕ, ◌<◌}
use mathlib.Core.Path.{◌≡◌}
use mathlib.Core.Bool.{Bool}
use mathlib.Core.List.{List, ◌++◌}
use lib.ListN.{length}
use Rattle.wire.specs.Answer.{Carried}
use Rattle.filter.specs.Filter.{filter_of}
use Rattle.parse.specs.Message.{numbered_answer}
use Rattle.facts.proofs.Whole.{judged_stable, judged_honest}
use Rattle.confined.specs.Confined.{confined_message_of_lem}
use Rattle.confined.proofs.Laws.{confined_stable, confined_honest}

module _ (f : List ℕ) (stored : Bool) (s t : List ℕ) where
  pub whole_stable : ((numbered_answer (confined_message_of_lem f stored s)).number ≡ 2 → ⊥) → confined_message_of_lem f stored (s ++ t) ≡ confined_message_of_lem f stored s
  unfolding confined_message_of_lem
  whole_stable w = judged_stable _ _ (λ filter w. confined_stable f filter stored s t w) (filter_of f) w

  pub whole_honest : (n : ℕ) → numbered_answer (confined_message_of_lem f stored s) ≡ record { number = 2; carries = Carried.need n } → length t < n
      → (numbered_answer (confined_message_of_lem f stored (s ++ t))).number ≡ 2
  unfolding confined_message_of_lem
  whole_honest n e few = judged_honest _ _ n (λ filter e. confined_honest f filter stored s t n e few) (filter_of f) e
