-- `numbers::put_stored_at` meets its contract: `search` goes through the rule as the code does.
use Rattle.numbers.proofs.Outlined.{outlined}
use Rattle.numbers.proofs.put_stored_at.Goals as goal

pub returns : goal.returns
returns c = search outlined depth 20
