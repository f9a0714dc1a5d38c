-- `headers::dlt_extended_header` meets its contract: `search` goes through the rule as the code does.
use Rattle.wire.proofs.Reading.{reading}
use Rattle.headers.specs.Extended.{extended}
use Rattle.headers.proofs.dlt_extended_header.Goals as goal

pub returns-in_err-info : goal.returns-in_err-info
unfolding extended
returns-in_err-info c = search reading depth 20

pub returns-in_err-count : goal.returns-in_err-count
unfolding extended
returns-in_err-count c = search reading depth 20

pub returns : goal.returns
unfolding extended
returns c = search reading depth 20
