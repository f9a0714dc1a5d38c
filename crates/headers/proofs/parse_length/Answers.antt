-- `headers::parse_length` meets its contract: `search` goes through the rule as the code does.
use Rattle.wire.proofs.Reading.{reading}
use Rattle.headers.specs.Standard.{declared}
use Rattle.headers.proofs.parse_length.Goals as goal

pub returns-in_err-before : goal.returns-in_err-before
unfolding declared
returns-in_err-before c = search reading depth 20

pub returns : goal.returns
unfolding declared
returns c = search reading depth 20
