-- `arguments::sized_value` meets its contract: `search` goes through the rule as the code does.
use Rattle.arguments.proofs.Reading.{arguments-reading}
use Rattle.arguments.specs.Argument.{content}
use Rattle.arguments.proofs.sized_value.Goals as goal

pub returns-in_err-run : goal.returns-in_err-run
unfolding content
returns-in_err-run c = search arguments-reading depth 20

pub returns-in_err-text : goal.returns-in_err-text
unfolding content
returns-in_err-text c = search arguments-reading depth 20

pub returns-in_ok-run : goal.returns-in_ok-run
unfolding content
returns-in_ok-run c = search arguments-reading depth 20

pub returns-in_ok-text : goal.returns-in_ok-text
unfolding content
returns-in_ok-text c = search arguments-reading depth 20
