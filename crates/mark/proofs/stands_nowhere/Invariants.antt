-- `mark::stands_nowhere` meets its contract. The loop's invariant: where none was there so far, the first place from `at` on is the first from `at + k` on.
use Prim.Native.Nat.{◌+◌, ◌-◌, ◌≤◌}
use mathlib.Core.Path.{◌≡◌}
use mathlib.Core.Bool.{true}
use Rattle.mark.specs.First.{pattern, find}
use Rattle.mark.proofs.stands_nowhere.Given as goal

abbrev pub invariant-loop-k : goal.invariant-loop-k
invariant-loop-k l = (l.k ≤ l.n) × (l.none ≡ true → find pattern l.s l.at ≡ find pattern l.s (l.at + l.k))

abbrev pub decreases-loop-k : goal.decreases-loop-k
decreases-loop-k l = l.n - l.k
