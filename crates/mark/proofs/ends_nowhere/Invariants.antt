-- `mark::ends_nowhere` meets its contract. The loop's invariant: where none was there so far, the first place from `at` on is the first from `at + j` on.
use Prim.Native.Nat.{◌+◌, ◌-◌, ◌≤◌}
use mathlib.Core.Path.{◌≡◌}
use mathlib.Core.Bool.{true}
use Rattle.mark.specs.First.{pattern, find}
use Rattle.mark.proofs.ends_nowhere.Given as goal

abbrev pub invariant-loop-j : goal.invariant-loop-j
invariant-loop-j l = (l.j ≤ l.n) × (l.none ≡ true → find pattern l.s l.at ≡ find pattern l.s (l.at + l.j))

abbrev pub decreases-loop-j : goal.decreases-loop-j
decreases-loop-j l = l.n - l.j
