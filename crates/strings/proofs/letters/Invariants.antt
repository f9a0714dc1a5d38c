-- `strings::letters` meets its contract: the loop's invariant is `Letters` itself.
use Rattle.strings.specs.Text.{Letters}
use Rattle.strings.proofs.letters.Given as goal

abbrev pub invariant-loop-k : goal.invariant-loop-k
invariant-loop-k l = Letters l.s l.at l.n l.k
