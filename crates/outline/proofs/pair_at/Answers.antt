-- `outline::pair_at` meets its contract: `search` goes through the rule as the code does.
use Rattle.outline.proofs.Reading.{glancing}
use Rattle.outline.proofs.pair_at.Goals as goal

pub returns-in-Ok : goal.returns-in-Ok
returns-in-Ok c = search glancing depth 20

pub returns-in-Err : goal.returns-in-Err
returns-in-Err c = search glancing depth 20
