-- `strings::two_bytes` meets its contract: `search` goes through the rule as the code does.
use Rattle.strings.proofs.Utf8.{utf8}
use Rattle.strings.proofs.two_bytes.Goals as goal

pub returns-then-n-lt2 : goal.returns-then-n-lt2
returns-then-n-lt2 c = search utf8 depth 20

pub returns-then-stands : goal.returns-then-stands
returns-then-stands c = search utf8 depth 20

pub returns-else-stands : goal.returns-else-stands
returns-else-stands c = search utf8 depth 20
