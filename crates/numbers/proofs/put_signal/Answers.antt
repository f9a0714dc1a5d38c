-- `numbers::put_signal` meets its contract: `search` goes through the rule as the code does.
use Rattle.numbers.proofs.Groups.{groups}
use Rattle.numbers.proofs.put_signal.Goals as goal

pub returns-then-out-ge26 : goal.returns-then-out-ge26
returns-then-out-ge26 c = search groups depth 20

pub returns-else-out-ge26 : goal.returns-else-out-ge26
returns-else-out-ge26 c = search groups depth 20
