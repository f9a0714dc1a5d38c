-- `skim::skim_fixed` meets its contract: `search` goes through the rule as the code does.
use Rattle.skim.proofs.Reading.{skim-reading}
use Rattle.skim.specs.Skim.{skim_fixed_of}
use Rattle.skim.proofs.skim_fixed.Goals as goal

pub returns-in_err-skim_scaled-in-4 : goal.returns-in_err-skim_scaled-in-4
unfolding skim_fixed_of
returns-in_err-skim_scaled-in-4 c = search skim-reading depth 20

pub returns-in_ok-skim_scaled-in-4 : goal.returns-in_ok-skim_scaled-in-4
unfolding skim_fixed_of
returns-in_ok-skim_scaled-in-4 c = search skim-reading depth 20

pub returns-in_default : goal.returns-in_default
unfolding skim_fixed_of
returns-in_default c = search skim-reading depth 20
