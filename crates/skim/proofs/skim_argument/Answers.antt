-- `skim::skim_argument` meets its contract: `search` goes through the rule as the code does.
use Rattle.skim.proofs.Reading.{skim-reading}
use Rattle.skim.proofs.skim_argument.Goals as goal

pub returns-in_err-word : goal.returns-in_err-word
returns-in_err-word c = search skim-reading depth 20

pub returns : goal.returns
returns c = search skim-reading depth 20
