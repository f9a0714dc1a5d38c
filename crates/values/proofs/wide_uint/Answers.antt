-- `values::wide_uint` meets its contract: `search` goes through the rule as the code does.
use Rattle.values.proofs.Reading.{uints}
use Rattle.values.proofs.wide_uint.Goals as goal

pub returns-in_err-whole : goal.returns-in_err-whole
returns-in_err-whole c = search uints depth 20

pub returns : goal.returns
returns c = search uints depth 20
