-- `skim::skim_whole` meets its contract: `search` goes through the rule as the code does.
use Rattle.skim.proofs.Reading.{skim-reading}
use Rattle.skim.specs.Skim.{skim_whole_of}
use Rattle.skim.proofs.skim_whole.Goals as goal

pub returns-in-0 : goal.returns-in-0
unfolding skim_whole_of
returns-in-0 c = search skim-reading depth 20

pub returns-in_err-skim_plain-in_default : goal.returns-in_err-skim_plain-in_default
unfolding skim_whole_of
returns-in_err-skim_plain-in_default c = search skim-reading depth 20

pub returns-in_ok-skim_plain-in_default : goal.returns-in_ok-skim_plain-in_default
unfolding skim_whole_of
returns-in_ok-skim_plain-in_default c = search skim-reading depth 20
