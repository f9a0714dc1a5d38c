-- `names::name_and_unit` meets its contract: `search` goes through the rule as the code does.
use Rattle.wire.proofs.Reading.{reading}
use Rattle.names.specs.Names.{name_and_unit_of}
use Rattle.names.proofs.name_and_unit.Goals as goal

pub returns-in_err-name_size : goal.returns-in_err-name_size
unfolding name_and_unit_of
returns-in_err-name_size c = search reading depth 20

pub returns-in_err-unit_size : goal.returns-in_err-unit_size
unfolding name_and_unit_of
returns-in_err-unit_size c = search reading depth 20

pub returns : goal.returns
unfolding name_and_unit_of
returns c = search reading depth 20
