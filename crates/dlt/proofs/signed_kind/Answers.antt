-- `dlt::signed_kind` meets its contract: `search` goes through the rule as the code does.
use Rattle.dlt.proofs.Reading.{dlt-reading}
use Rattle.dlt.specs.TypeInfoWord.{signed_of}
use Rattle.dlt.proofs.signed_kind.Goals as goal

pub returns-in-Some : goal.returns-in-Some
unfolding signed_of
returns-in-Some c = search dlt-reading depth 20

pub returns-in-None : goal.returns-in-None
unfolding signed_of
returns-in-None c = search dlt-reading depth 20

pub returns-in-Some-type_len : goal.returns-in-Some-type_len
unfolding signed_of
returns-in-Some-type_len c = search dlt-reading depth 20

pub returns-in-None-type_len : goal.returns-in-None-type_len
unfolding signed_of
returns-in-None-type_len c = search dlt-reading depth 20
