-- `numbers::word_at` meets its contract: `search` goes through the rule as the code does.
use Rattle.numbers.proofs.Outlined.{outlined}
use Rattle.numbers.proofs.word_at.Goals as goal

pub returns-then-big : goal.returns-then-big
returns-then-big c = search outlined depth 20

pub returns-else-big : goal.returns-else-big
returns-else-big c = search outlined depth 20
