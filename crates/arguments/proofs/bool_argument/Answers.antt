-- `arguments::bool_argument` meets its contract: `search` goes through the rule as the code does.
use Rattle.arguments.proofs.Reading.{arguments-reading}
use Rattle.arguments.specs.Argument.{boolean}
use Rattle.arguments.proofs.bool_argument.Goals as goal

pub returns-in_err-name : goal.returns-in_err-name
unfolding boolean
returns-in_err-name c = search arguments-reading depth 20

pub returns-in_err-byte : goal.returns-in_err-byte
unfolding boolean
returns-in_err-byte c = search arguments-reading depth 20

pub returns : goal.returns
unfolding boolean
returns c = search arguments-reading depth 20
