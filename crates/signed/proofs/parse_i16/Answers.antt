-- `signed::parse_i16` meets its contract: `search` goes through the rule as the code does.
use Rattle.signed.proofs.Reading.{signed-reading}
use Rattle.wire.specs.Number.{numeric}
use Rattle.signed.specs.Twos.{signed}
use Rattle.signed.proofs.parse_i16.Goals as goal

pub returns-in_err-bits : goal.returns-in_err-bits
unfolding signed numeric
returns-in_err-bits c = search signed-reading depth 20

pub returns : goal.returns
unfolding signed numeric
returns c = search signed-reading depth 20
