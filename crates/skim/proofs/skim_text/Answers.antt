-- `skim::skim_text` meets its contract: `search` goes through the rule as the code does.
use Rattle.skim.proofs.Reading.{skim-reading}
use Rattle.skim.proofs.skim_text.Goals as goal

pub returns-then-size-left : goal.returns-then-size-left
returns-then-size-left c = search skim-reading depth 20

pub returns-else-size-left : goal.returns-else-size-left
returns-else-size-left c = search skim-reading depth 20
