-- `skim::skim_name` meets its contract: `search` goes through the rule as the code does.
use Rattle.skim.proofs.Reading.{skim-reading}
use Rattle.skim.specs.Skim.{skim_name_of}
use Rattle.skim.proofs.skim_name.Goals as goal

pub returns-in_err-size : goal.returns-in_err-size
unfolding skim_name_of
returns-in_err-size c = search skim-reading depth 20

pub returns-in_ok-size : goal.returns-in_ok-size
unfolding skim_name_of
returns-in_ok-size c = search skim-reading depth 20

pub returns-else-info : goal.returns-else-info
unfolding skim_name_of
returns-else-info c = search skim-reading depth 20
