-- `payload::control_payload` meets its contract: `search` goes through the rule as the code does.
use Rattle.payload.proofs.Reading.{payload-reading}
use Rattle.payload.specs.Payload.{control}
use Rattle.payload.proofs.control_payload.Goals as goal

pub returns-in_err-id : goal.returns-in_err-id
unfolding control
returns-in_err-id c = search payload-reading depth 20

pub returns-in_err-rest : goal.returns-in_err-rest
unfolding control
returns-in_err-rest c = search payload-reading depth 20

pub returns-in_ok-rest : goal.returns-in_ok-rest
unfolding control
returns-in_ok-rest c = search payload-reading depth 20

pub returns-else-n-ge1 : goal.returns-else-n-ge1
unfolding control
returns-else-n-ge1 c = search payload-reading depth 20
