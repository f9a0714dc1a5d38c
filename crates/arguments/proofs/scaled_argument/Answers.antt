-- `arguments::scaled_argument` meets its contract: `search` goes through the rule as the code does.
use Rattle.arguments.proofs.Reading.{arguments-reading}
use Rattle.arguments.specs.Argument.{scaled}
use Rattle.arguments.proofs.scaled_argument.Goals as goal

pub returns-in_err-names : goal.returns-in_err-names
unfolding scaled
returns-in_err-names c = search arguments-reading depth 20

pub returns-in_err-scale : goal.returns-in_err-scale
unfolding scaled
returns-in_err-scale c = search arguments-reading depth 20

pub returns-in_err-number : goal.returns-in_err-number
unfolding scaled
returns-in_err-number c = search arguments-reading depth 20

pub returns : goal.returns
unfolding scaled
returns c = search arguments-reading depth 20
