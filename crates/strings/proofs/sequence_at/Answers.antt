-- `strings::sequence_at` meets its contract: `search` goes through the rule as the code does.
use Rattle.strings.proofs.Utf8.{utf8}
use Rattle.strings.proofs.sequence_at.Goals as goal

pub returns-then-s-at-le127 : goal.returns-then-s-at-le127
returns-then-s-at-le127 c = search utf8 depth 20

pub returns : goal.returns
returns c = search utf8 depth 20
