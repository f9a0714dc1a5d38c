-- The walk by its cases.
--
-- The proofs go by the relation `Walk`, which has a case for each way a turn can end, and not by `run`: a proof by its cases needs no test taken
-- apart. `walked` says that `run` is in it. Assumes nothing.
use Prim.Native.Nat.{ℕ, zero, suc, ◌+◌}
use mathlib.Core.Path.{◌≡◌, refl}
use mathlib.Core.List.{List, [], ◌∷◌}
use lib.ListN.{drop}
use Rattle.walk.specs.Walk.{Step, Wait, Take, Ends, Paused, Full, Waits, Out, stop, after, entry, turn, run}

-- the answers, told apart by a number
abbrev pub apart : {W : Type 0} → Ends W → ℕ
apart (Waits need) = 0
apart Full = 1
apart Paused = 2

-- ---- the same by cases

module _ {W P : Type 0} (rule : List ℕ → Step W P) where
  pub data Walk : ℕ → ℕ → ℕ → List ℕ → Out W P → Type 0 where
    paused : {room pos : ℕ} {s : List ℕ} → Walk 0 room pos s (stop pos Paused)
    waits : {n room pos : ℕ} {need : W} {s : List ℕ} → rule s ≡ Wait need → Walk (suc n) room pos s (stop pos (Waits need))
    full : {n pos k l : ℕ} {i : P} {s : List ℕ} → rule s ≡ Take k l i → Walk (suc n) 0 pos s (stop pos Full)
    took : {n room pos k l : ℕ} {i : P} {s : List ℕ} {o : Out W P}
        → rule s ≡ Take k l i → Walk n room (pos + (k + l)) (drop (k + l) s) o
        → Walk (suc n) (suc room) pos s (after (entry pos k l i ∷ []) o)

  pub walked : (n room pos : ℕ) (s : List ℕ) → Walk n room pos s (run rule n room pos s)
  unfolding run
  walked zero room pos s = paused
  walked (suc n) room pos s = go (λ r d. walked n r (pos + d) (drop d s)) (rule s) refl room
    where
      go : ((r d : ℕ) → Walk n r (pos + d) (drop d s) (run rule n r (pos + d) (drop d s)))
          → (a : Step W P) → rule s ≡ a → (r : ℕ) → Walk (suc n) r pos s (turn a r pos (λ r d. run rule n r (pos + d) (drop d s)))
      go ih (Wait need) e r = waits e
      go ih (Take k l i) e zero = full e
      go ih (Take k l i) e (suc r) = took e (ih r (k + l))

  -- one turn of `run`: what a loop that does it goes by
  pub run_wait : (n room pos : ℕ) (s : List ℕ) {need : W} → rule s ≡ Wait need → run rule (suc n) room pos s ≡ stop pos (Waits need)
  unfolding run
  run_wait n room pos s e = rw e

  pub run_full : (n pos : ℕ) (s : List ℕ) {k l : ℕ} {i : P} → rule s ≡ Take k l i → run rule (suc n) 0 pos s ≡ stop pos Full
  unfolding run
  run_full n pos s e = rw e

  pub run_take : (n room pos : ℕ) (s : List ℕ) {k l : ℕ} {i : P} → rule s ≡ Take k l i
      → run rule (suc n) (suc room) pos s ≡ after (entry pos k l i ∷ []) (run rule n room (pos + (k + l)) (drop (k + l) s))
  unfolding run
  run_take n room pos s e = rw e
