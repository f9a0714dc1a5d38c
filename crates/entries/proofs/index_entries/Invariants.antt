-- The loop goes from turn to turn: `Due` (proofs/Turns.antt) holds of the table and the turn, and what is left gets less.
use Rattle.entries.proofs.Turns.{Due, left}
use Rattle.entries.proofs.index_entries.Given as goal

abbrev pub invariant-loop-t : goal.invariant-loop-t
invariant-loop-t l = Due l.f l.s l.fn.state l.n l.initial.table l.table l.t

abbrev pub decreases-loop-t : goal.decreases-loop-t
decreases-loop-t l = left l.s l.t
