-- `numbers::any_id_at` meets its contract: `search` goes through the rule as the code does.
use Rattle.numbers.proofs.Outlined.{outlined}
use Rattle.numbers.proofs.any_id_at.Goals as goal

pub returns-in-Ok : goal.returns-in-Ok
returns-in-Ok c = search outlined depth 20

pub returns-in-Err : goal.returns-in-Err
returns-in-Err c = search outlined depth 20
