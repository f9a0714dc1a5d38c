-- `numbers::put_raw` meets its contract: `search` goes through the rule as the code does.
use Rattle.numbers.proofs.Groups.{groups}
use Rattle.numbers.proofs.put_raw.Goals as goal

pub returns-then-out-ge5 : goal.returns-then-out-ge5
returns-then-out-ge5 c = search groups depth 20

pub returns-else-out-ge5 : goal.returns-else-out-ge5
returns-else-out-ge5 c = search groups depth 20
