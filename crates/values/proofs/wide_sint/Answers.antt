-- `values::wide_sint` meets its contract: `search` goes through the rule as the code does.
use Rattle.values.proofs.Reading.{signs}
use Rattle.values.proofs.wide_sint.Goals as goal

pub returns-in_err-num : goal.returns-in_err-num
returns-in_err-num c = search signs depth 20

pub returns : goal.returns
returns c = search signs depth 20
