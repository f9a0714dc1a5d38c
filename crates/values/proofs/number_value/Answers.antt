-- `values::number_value` meets its contract: `search` goes through the rule as the code does.
use Rattle.values.proofs.Reading.{values-reading}
use Rattle.values.specs.Value.{value}
use Rattle.values.proofs.number_value.Goals as goal

pub returns-in-Unsigned : goal.returns-in-Unsigned
unfolding value
returns-in-Unsigned c = search values-reading depth 20

pub returns-in-Signed : goal.returns-in-Signed
unfolding value
returns-in-Signed c = search values-reading depth 20

pub returns-in-Float : goal.returns-in-Float
unfolding value
returns-in-Float c = search values-reading depth 20
