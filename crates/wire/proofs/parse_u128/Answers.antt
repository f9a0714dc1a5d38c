-- `wire::parse_u128` meets its contract: `search` goes through the rule as the code does.
use Rattle.wire.proofs.Digits.{leaves}
use Rattle.wire.proofs.parse_u128.Goals as goal

pub returns-then-rest-lt16 : goal.returns-then-rest-lt16
returns-then-rest-lt16 c = search leaves depth 20

pub returns-then-big : goal.returns-then-big
returns-then-big c = search leaves depth 20

pub returns-else-big : goal.returns-else-big
returns-else-big c = search leaves depth 20
