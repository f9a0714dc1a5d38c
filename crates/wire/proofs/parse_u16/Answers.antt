-- `wire::parse_u16` meets its contract: `search` goes through the rule as the code does.
use Rattle.wire.proofs.Digits.{leaves}
use Rattle.wire.proofs.parse_u16.Goals as goal

pub returns-then-rest-lt2 : goal.returns-then-rest-lt2
returns-then-rest-lt2 c = search leaves depth 20

pub returns : goal.returns
returns c = search leaves depth 20
