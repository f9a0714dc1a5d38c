-- `arguments::sized_argument` meets its contract: `search` goes through the rule as the code does.
use Rattle.arguments.proofs.Reading.{arguments-reading}
use Rattle.arguments.specs.Argument.{sized}
use Rattle.arguments.proofs.sized_argument.Goals as goal

pub returns-in_err-size : goal.returns-in_err-size
unfolding sized
returns-in_err-size c = search arguments-reading depth 20

pub returns-in_err-name : goal.returns-in_err-name
unfolding sized
returns-in_err-name c = search arguments-reading depth 20

pub returns-in_err-content : goal.returns-in_err-content
unfolding sized
returns-in_err-content c = search arguments-reading depth 20

pub returns : goal.returns
unfolding sized
returns c = search arguments-reading depth 20
