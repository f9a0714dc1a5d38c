-- `wire::parse_u64` meets its contract: `search` goes through the rule as the code does.
use Rattle.wire.proofs.Digits.{leaves}
use Rattle.wire.proofs.parse_u64.Goals as goal

pub returns-then-rest-lt8 : goal.returns-then-rest-lt8
returns-then-rest-lt8 c = search leaves depth 20

pub returns : goal.returns
returns c = search leaves depth 20
