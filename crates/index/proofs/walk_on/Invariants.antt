-- `index::walk_on` meets its contract. The loop keeps what the call will leave (`Kept`): each need about the walk is one of the laws of walk's
use Rattle.index.specs.Index.{flat_form}
use Rattle.index.proofs.Laws.{Kept}
use Rattle.index.proofs.walk_on.Given as goal

abbrev pub invariant-loop-taken : goal.invariant-loop-taken
invariant-loop-taken l = Kept flat_form l.f l.filter l.n l.s l.size l.from l.initial.table l.initial.used l.table l.used l.at l.taken
