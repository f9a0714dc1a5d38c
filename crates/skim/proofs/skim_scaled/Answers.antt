-- `skim::skim_scaled` meets its contract: `search` goes through the rule as the code does.
use Rattle.skim.proofs.Reading.{skim-reading}
use Rattle.skim.specs.Skim.{skim_scaled_of}
use Rattle.skim.proofs.skim_scaled.Goals as goal

pub returns-in_err-names : goal.returns-in_err-names
unfolding skim_scaled_of
returns-in_err-names c = search skim-reading depth 20

pub returns-in_err-next : goal.returns-in_err-next
unfolding skim_scaled_of
returns-in_err-next c = search skim-reading depth 20

pub returns : goal.returns
unfolding skim_scaled_of
returns c = search skim-reading depth 20
