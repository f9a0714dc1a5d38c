-- `strings::before_zero` meets its contract: the loop's invariant is `Passed`: so many bytes were passed, and none is zero.
use Rattle.strings.proofs.Strings.{Passed}
use Rattle.strings.proofs.before_zero.Given as goal

abbrev pub invariant-loop-k : goal.invariant-loop-k
invariant-loop-k l = Passed l.s l.at l.n l.k
