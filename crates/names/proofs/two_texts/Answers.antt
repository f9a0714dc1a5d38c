-- `names::two_texts` meets its contract: `search` goes through the rule as the code does.
use Rattle.wire.proofs.Reading.{reading}
use Rattle.names.specs.Names.{texts}
use Rattle.names.proofs.two_texts.Goals as goal

pub returns-in_err-name : goal.returns-in_err-name
unfolding texts
returns-in_err-name c = search reading depth 20

pub returns-in_err-unit : goal.returns-in_err-unit
unfolding texts
returns-in_err-unit c = search reading depth 20

pub returns : goal.returns
unfolding texts
returns c = search reading depth 20
