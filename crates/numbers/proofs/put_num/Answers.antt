-- `numbers::put_num` meets its contract: `search` goes through the rule as the code does.
use Rattle.numbers.proofs.Rows.{rows}
use Rattle.numbers.specs.Layout.{num_numbers}
use Rattle.numbers.proofs.put_num.Goals as goal

pub returns-in-Some : goal.returns-in-Some
unfolding num_numbers
returns-in-Some c = search rows depth 20

pub returns-in-None : goal.returns-in-None
unfolding num_numbers
returns-in-None c = search rows depth 20
