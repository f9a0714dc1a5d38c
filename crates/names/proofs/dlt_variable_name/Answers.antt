-- `names::dlt_variable_name` meets its contract: `search` goes through the rule as the code does.
use Rattle.wire.proofs.Reading.{reading}
use Rattle.names.specs.Names.{name}
use Rattle.names.proofs.dlt_variable_name.Goals as goal

pub returns-in_err-size : goal.returns-in_err-size
unfolding name
returns-in_err-size c = search reading depth 20

pub returns : goal.returns
unfolding name
returns c = search reading depth 20
