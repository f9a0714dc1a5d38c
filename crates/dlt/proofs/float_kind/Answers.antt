-- `dlt::float_kind` meets its contract: `search` goes through the rule as the code does.
use Rattle.dlt.proofs.Reading.{dlt-reading}
use Rattle.dlt.specs.TypeInfoWord.{float_of}
use Rattle.dlt.proofs.float_kind.Goals as goal

pub returns-in-Some : goal.returns-in-Some
unfolding float_of
returns-in-Some c = search dlt-reading depth 20

pub returns-in-None : goal.returns-in-None
unfolding float_of
returns-in-None c = search dlt-reading depth 20
