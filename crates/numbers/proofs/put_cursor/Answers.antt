-- `numbers::put_cursor` meets its contract: `search` goes through the rule as the code does.
use Rattle.numbers.proofs.Groups.{groups}
use Rattle.numbers.proofs.put_cursor.Goals as goal

pub returns : goal.returns
returns c = search groups depth 20
