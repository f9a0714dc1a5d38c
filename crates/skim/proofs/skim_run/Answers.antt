-- `skim::skim_run` meets its contract: `search` goes through the rule as the code does.
use Rattle.skim.proofs.Reading.{skim-reading}
use Rattle.skim.proofs.skim_run.Goals as goal

pub returns-then-n-rest : goal.returns-then-n-rest
returns-then-n-rest c = search skim-reading depth 20

pub returns-else-n-rest : goal.returns-else-n-rest
returns-else-n-rest c = search skim-reading depth 20
