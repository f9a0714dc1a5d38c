-- `strings::valid_up_to` meets its contract: the loop's invariant is `Valid`: so many bytes were passed, all of them in well-formed sequences.
use Prim.Native.Nat.{◌-◌, ◌≤◌}
use mathlib.Core.Path.{◌≡◌}
use lib.ListN.{length}
use Rattle.strings.specs.Utf8.{least}
use Rattle.strings.proofs.Utf8.{Valid}
use Rattle.strings.proofs.valid_up_to.Given as goal

abbrev pub invariant-loop-k : goal.invariant-loop-k
invariant-loop-k l = (l.end ≡ least l.n (length l.s - l.at)) × (l.end ≤ length l.s - l.at) × Valid l.s l.at l.end l.k

abbrev pub decreases-loop-k : goal.decreases-loop-k
decreases-loop-k l = l.end - l.k
