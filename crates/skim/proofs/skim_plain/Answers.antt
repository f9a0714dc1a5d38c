-- `skim::skim_plain` meets its contract: `search` goes through the rule as the code does.
use Rattle.skim.proofs.Reading.{skim-reading}
use Rattle.skim.specs.Skim.{skim_plain_of}
use Rattle.skim.proofs.skim_plain.Goals as goal

pub returns-in_err-next : goal.returns-in_err-next
unfolding skim_plain_of
returns-in_err-next c = search skim-reading depth 20

pub returns : goal.returns
unfolding skim_plain_of
returns c = search skim-reading depth 20
