-- `wire::parse_u8` meets its contract: `search` goes through the rule as the code does.
use Rattle.wire.proofs.Digits.{leaves}
use Rattle.wire.proofs.parse_u8.Goals as goal

pub returns-then-rest-lt1 : goal.returns-then-rest-lt1
returns-then-rest-lt1 c = search leaves depth 20

pub returns : goal.returns
returns c = search leaves depth 20
