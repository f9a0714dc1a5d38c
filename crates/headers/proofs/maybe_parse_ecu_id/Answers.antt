-- `headers::maybe_parse_ecu_id` meets its contract: `search` goes through the rule as the code does.
use Rattle.wire.proofs.Reading.{reading}
use Rattle.headers.specs.Standard.{maybe_id}
use Rattle.headers.proofs.maybe_parse_ecu_id.Goals as goal

pub returns-in_err-id : goal.returns-in_err-id
unfolding maybe_id
returns-in_err-id c = search reading depth 20

pub returns-in_ok-id : goal.returns-in_ok-id
unfolding maybe_id
returns-in_ok-id c = search reading depth 20

pub returns-else-present : goal.returns-else-present
unfolding maybe_id
returns-else-present c = search reading depth 20
