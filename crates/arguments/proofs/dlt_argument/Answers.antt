-- `arguments::dlt_argument` meets its contract: `search` goes through the rule as the code does.
use Rattle.arguments.proofs.Reading.{arguments-reading}
use Rattle.arguments.specs.Argument.{argument}
use Rattle.arguments.proofs.dlt_argument.Goals as goal

pub returns-in_err-info : goal.returns-in_err-info
unfolding argument
returns-in_err-info c = search arguments-reading depth 20

pub returns : goal.returns
unfolding argument
returns c = search arguments-reading depth 20
