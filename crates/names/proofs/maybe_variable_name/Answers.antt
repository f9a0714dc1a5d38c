-- `names::maybe_variable_name` meets its contract: `search` goes through the rule as the code does.
use Rattle.wire.proofs.Reading.{reading}
use Rattle.names.specs.Names.{maybe_name}
use Rattle.names.proofs.maybe_variable_name.Goals as goal

pub returns-in_err-name : goal.returns-in_err-name
unfolding maybe_name
returns-in_err-name c = search reading depth 20

pub returns-in_ok-name : goal.returns-in_ok-name
unfolding maybe_name
returns-in_ok-name c = search reading depth 20

pub returns-else-has_variable_info : goal.returns-else-has_variable_info
unfolding maybe_name
returns-else-has_variable_info c = search reading depth 20
