-- `skim::skim_number` meets its contract: `search` goes through the rule as the code does.
use Rattle.skim.proofs.Reading.{skim-reading}
use Rattle.skim.specs.Skim.{skim_number_of}
use Rattle.skim.proofs.skim_number.Goals as goal

pub returns-then-fixed : goal.returns-then-fixed
unfolding skim_number_of
returns-then-fixed c = search skim-reading depth 20

pub returns-else-fixed : goal.returns-else-fixed
unfolding skim_number_of
returns-else-fixed c = search skim-reading depth 20
