-- `numbers::letter_at` meets its contract: `search` goes through the rule as the code does.
use Rattle.numbers.proofs.Outlined.{outlined}
use Rattle.numbers.proofs.letter_at.Goals as goal

pub returns-then-s-at-eq0 : goal.returns-then-s-at-eq0
returns-then-s-at-eq0 c = search outlined depth 20

pub returns : goal.returns
returns c = search outlined depth 20
