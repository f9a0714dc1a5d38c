-- `signals::construct_arguments` meets its contract. The invariant: the whole is what is left of it at the loop's position.
use mathlib.Core.Path.{◌≡◌}
use lib.ListN.{drop}
use Rattle.signals.specs.Signals.{signals}
use Rattle.signals.proofs.construct_arguments.Given as goal

abbrev pub invariant-loop-word : goal.invariant-loop-word
invariant-loop-word l = signals l.big l.words l.data 0 ≡ signals l.big (drop l.word-index l.words) l.data l.at
