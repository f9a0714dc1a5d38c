-- `signed::parse_i128` meets its contract: `search` goes through the rule as the code does.
use Rattle.signed.proofs.Reading.{signed-reading}
use Rattle.signed.proofs.parse_i128.Goals as goal

pub returns-in_err-bits : goal.returns-in_err-bits
returns-in_err-bits c = search signed-reading depth 20

pub returns : goal.returns
returns c = search signed-reading depth 20
