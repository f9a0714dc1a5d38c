-- `names::dlt_variable_name_and_unit` meets its contract: `search` goes through the rule as the code does.
use Rattle.wire.proofs.Reading.{reading}
use Rattle.names.specs.Names.{maybe_names}
use Rattle.names.proofs.dlt_variable_name_and_unit.Goals as goal

pub returns-then-has_variable_info : goal.returns-then-has_variable_info
unfolding maybe_names
returns-then-has_variable_info c = search reading depth 20

pub returns-else-has_variable_info : goal.returns-else-has_variable_info
unfolding maybe_names
returns-else-has_variable_info c = search reading depth 20
