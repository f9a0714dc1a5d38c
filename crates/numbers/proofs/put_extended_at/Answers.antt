-- `numbers::put_extended_at` meets its contract: `search` goes through the rule as the code does.
use Rattle.numbers.proofs.Outlined.{outlined}
use Rattle.numbers.proofs.put_extended_at.Goals as goal

pub returns-then-present : goal.returns-then-present
returns-then-present c = search outlined depth 20

pub returns-else-present : goal.returns-else-present
returns-else-present c = search outlined depth 20
