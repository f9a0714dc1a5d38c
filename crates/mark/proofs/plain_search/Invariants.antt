-- `mark::plain_search` meets its contract. The outer loop's invariant: the first place from `at` on is the first from `i` on.
use Prim.Native.Nat.{ℕ, ◌+◌, ◌-◌, ◌<◌}
use mathlib.Core.Path.{◌≡◌}
use lib.ListN.{length, get_or}
use Rattle.mark.specs.First.{pattern, find}
use Rattle.mark.proofs.plain_search.Given as goal

abbrev pub invariant-loop-j : goal.invariant-loop-j
invariant-loop-j l = (l.j < 4) × ((k : ℕ) → k < l.j → get_or l.s (l.i + k) 0 ≡ get_or pattern k 0)

abbrev pub decreases-loop-j : goal.decreases-loop-j
decreases-loop-j l = 4 - l.j

abbrev pub invariant-places : goal.invariant-places
invariant-places l = (l.last + 4 ≡ length l.s) × (find pattern l.s l.at ≡ find pattern l.s l.i)

abbrev pub decreases-places : goal.decreases-places
decreases-places l = length l.s - l.i
