-- `strings::three_bytes` meets its contract: `search` goes through the rule as the code does.
use Rattle.strings.proofs.Utf8.{utf8}
use Rattle.strings.proofs.three_bytes.Goals as goal

pub returns-then-n-lt3 : goal.returns-then-n-lt3
returns-then-n-lt3 c = search utf8 depth 20

pub returns-then-third : goal.returns-then-third
returns-then-third c = search utf8 depth 20

pub returns-else-third : goal.returns-else-third
returns-else-third c = search utf8 depth 20

pub returns-else-second : goal.returns-else-second
returns-else-second c = search utf8 depth 20
