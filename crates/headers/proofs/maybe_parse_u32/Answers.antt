-- `headers::maybe_parse_u32` meets its contract: `search` goes through the rule as the code does.
use Rattle.wire.proofs.Reading.{reading}
use Rattle.headers.specs.Standard.{maybe_number_of}
use Rattle.headers.proofs.maybe_parse_u32.Goals as goal

pub returns-in_err-num : goal.returns-in_err-num
unfolding maybe_number_of
returns-in_err-num c = search reading depth 20

pub returns-in_ok-num : goal.returns-in_ok-num
unfolding maybe_number_of
returns-in_ok-num c = search reading depth 20

pub returns-else-present : goal.returns-else-present
unfolding maybe_number_of
returns-else-present c = search reading depth 20
