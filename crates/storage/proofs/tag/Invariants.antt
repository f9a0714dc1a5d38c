-- `storage::tag` meets its contract: the loop's invariant is `Passed`: so many bytes of the tag were passed, and stand.
use Prim.Native.Nat.{◌≤◌}
use Rattle.storage.proofs.Tags.{Passed}
use Rattle.storage.proofs.tag.Given as goal

abbrev pub invariant-loop-k : goal.invariant-loop-k
invariant-loop-k l = (l.k ≤ l.rest) × Passed l.first l.size l.s l.at l.k
