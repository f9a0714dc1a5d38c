-- `dlt::TypeInfo::try_from` meets its contract: `search` goes through the rule as the code does.
use Rattle.dlt.proofs.Reading.{dlt-reading}
use Rattle.dlt.specs.TypeInfoWord.{type_info_of_lem}
use Rattle.dlt.proofs.TypeInfo.try_from.Goals as goal

pub returns-in-Some : goal.returns-in-Some
unfolding type_info_of_lem
returns-in-Some c = rw c.coding_of-coding.ensures (search dlt-reading depth 20)

pub returns-in-None : goal.returns-in-None
unfolding type_info_of_lem
returns-in-None c = search dlt-reading depth 20
