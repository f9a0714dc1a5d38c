-- `strings::four_bytes` meets its contract: `search` goes through the rule as the code does.
use Rattle.strings.proofs.Utf8.{utf8}
use Rattle.strings.proofs.four_bytes.Goals as goal

pub returns-then-n-lt4 : goal.returns-then-n-lt4
returns-then-n-lt4 c = search utf8 depth 20

pub returns-then-fourth : goal.returns-then-fourth
returns-then-fourth c = search utf8 depth 20

pub returns-else-fourth : goal.returns-else-fourth
returns-else-fourth c = search utf8 depth 20

pub returns-else-third : goal.returns-else-third
returns-else-third c = search utf8 depth 20

pub returns-else-second : goal.returns-else-second
returns-else-second c = search utf8 depth 20
