-- `mark::skip_blocks` meets its contract. The loop's invariant: the first place from `at` on is the first from `place` on.
use Prim.Native.Nat.{◌-◌}
use mathlib.Core.Path.{◌≡◌}
use lib.ListN.{length}
use Rattle.mark.specs.First.{pattern, find}
use Rattle.mark.proofs.skip_blocks.Given as goal

abbrev pub invariant-loop-at : goal.invariant-loop-at
invariant-loop-at l = find pattern l.s l.at ≡ find pattern l.s l.place

abbrev pub decreases-loop-at : goal.decreases-loop-at
decreases-loop-at l = length l.s - l.place
