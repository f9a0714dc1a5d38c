-- `skim::skim_names` meets its contract: `search` goes through the rule as the code does.
use Rattle.skim.proofs.Reading.{skim-reading}
use Rattle.skim.specs.Skim.{skim_names_of}
use Rattle.skim.proofs.skim_names.Goals as goal

pub returns-in_err-name : goal.returns-in_err-name
unfolding skim_names_of
returns-in_err-name c = search skim-reading depth 20

pub returns-in_err-unit : goal.returns-in_err-unit
unfolding skim_names_of
returns-in_err-unit c = search skim-reading depth 20

pub returns-in_ok-unit : goal.returns-in_ok-unit
unfolding skim_names_of
returns-in_ok-unit c = search skim-reading depth 20

pub returns-else-info : goal.returns-else-info
unfolding skim_names_of
returns-else-info c = search skim-reading depth 20
