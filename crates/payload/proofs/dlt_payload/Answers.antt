-- `payload::dlt_payload` meets its contract: `search` goes through the rule as the code does.
use Rattle.payload.proofs.Reading.{payload-reading}
use Rattle.payload.specs.Payload.{payload}
use Rattle.payload.proofs.dlt_payload.Goals as goal

pub returns-then-is_verbose : goal.returns-then-is_verbose
unfolding payload
returns-then-is_verbose c = search payload-reading depth 20

pub returns-then-is_control : goal.returns-then-is_control
unfolding payload
returns-then-is_control c = search payload-reading depth 20

pub returns : goal.returns
unfolding payload
returns c = search payload-reading depth 20
