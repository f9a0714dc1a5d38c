-- `payload::plain_payload` meets its contract: `search` goes through the rule as the code does.
use Rattle.payload.proofs.Reading.{payload-reading}
use Rattle.payload.specs.Payload.{plain}
use Rattle.payload.proofs.plain_payload.Goals as goal

pub returns-in_err-id : goal.returns-in_err-id
unfolding plain
returns-in_err-id c = search payload-reading depth 20

pub returns-in_err-rest : goal.returns-in_err-rest
unfolding plain
returns-in_err-rest c = search payload-reading depth 20

pub returns-in_ok-rest : goal.returns-in_ok-rest
unfolding plain
returns-in_ok-rest c = search payload-reading depth 20

pub returns-else-n-ge4 : goal.returns-else-n-ge4
unfolding plain
returns-else-n-ge4 c = search payload-reading depth 20
