-- `headers::dlt_standard_header` meets its contract: `search` goes through the rule as the code does.
use Rattle.wire.proofs.Reading.{reading}
use Rattle.headers.specs.Standard.{standard}
use Rattle.headers.proofs.dlt_standard_header.Goals as goal

pub returns-in_err-typ : goal.returns-in_err-typ
unfolding standard
returns-in_err-typ c = search reading depth 20

pub returns-in_err-counter : goal.returns-in_err-counter
unfolding standard
returns-in_err-counter c = search reading depth 20

pub returns-in_err-length : goal.returns-in_err-length
unfolding standard
returns-in_err-length c = search reading depth 20

pub returns : goal.returns
unfolding standard
returns c = search reading depth 20
