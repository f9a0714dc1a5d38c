-- `numbers::put_num_if` meets its contract: `search` goes through the rule as the code does.
use Rattle.numbers.proofs.Outlined.{outlined}
use Rattle.numbers.proofs.put_num_if.Goals as goal

pub returns-then-present : goal.returns-then-present
returns-then-present c = search outlined depth 20

pub returns-else-present : goal.returns-else-present
returns-else-present c = search outlined depth 20
