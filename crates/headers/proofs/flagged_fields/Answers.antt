-- `headers::flagged_fields` meets its contract: `search` goes through the rule as the code does.
use Rattle.wire.proofs.Reading.{reading}
use Rattle.headers.specs.Standard.{flagged}
use Rattle.headers.proofs.flagged_fields.Goals as goal

pub returns-in_err-ecu : goal.returns-in_err-ecu
unfolding flagged
returns-in_err-ecu c = search reading depth 20

pub returns-in_err-session : goal.returns-in_err-session
unfolding flagged
returns-in_err-session c = search reading depth 20

pub returns-in_err-time : goal.returns-in_err-time
unfolding flagged
returns-in_err-time c = search reading depth 20

pub returns-then-all-length : goal.returns-then-all-length
unfolding flagged
returns-then-all-length c = search reading depth 20

pub returns-else-all-length : goal.returns-else-all-length
unfolding flagged
returns-else-all-length c = search reading depth 20
