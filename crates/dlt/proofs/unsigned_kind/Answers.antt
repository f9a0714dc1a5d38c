-- `dlt::unsigned_kind` meets its contract: `search` goes through the rule as the code does.
use Rattle.dlt.proofs.Reading.{dlt-reading}
use Rattle.dlt.specs.TypeInfoWord.{unsigned_of}
use Rattle.dlt.proofs.unsigned_kind.Goals as goal

pub returns-in-Some : goal.returns-in-Some
unfolding unsigned_of
returns-in-Some c = search dlt-reading depth 20

pub returns-in-None : goal.returns-in-None
unfolding unsigned_of
returns-in-None c = search dlt-reading depth 20

pub returns-in-Some-type_len : goal.returns-in-Some-type_len
unfolding unsigned_of
returns-in-Some-type_len c = search dlt-reading depth 20

pub returns-in-None-type_len : goal.returns-in-None-type_len
unfolding unsigned_of
returns-in-None-type_len c = search dlt-reading depth 20
