-- `arguments::plain_argument` meets its contract: `search` goes through the rule as the code does.
use Rattle.arguments.proofs.Reading.{arguments-reading}
use Rattle.arguments.specs.Argument.{plain}
use Rattle.arguments.proofs.plain_argument.Goals as goal

pub returns-in_err-names : goal.returns-in_err-names
unfolding plain
returns-in_err-names c = search arguments-reading depth 20

pub returns-in_err-number : goal.returns-in_err-number
unfolding plain
returns-in_err-number c = search arguments-reading depth 20

pub returns : goal.returns
unfolding plain
returns c = search arguments-reading depth 20
