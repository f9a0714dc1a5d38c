-- `cursor::Cursor::next` meets its contract: `search` goes through the rule as the code does.
use Rattle.arguments.proofs.Reading.{arguments-reading}
use Rattle.cursor.specs.Cursor.{turn}
use Rattle.cursor.proofs.Cursor.next.Goals as goal

pub returns-in_err-item : goal.returns-in_err-item
unfolding turn
returns-in_err-item c = search arguments-reading depth 20

pub returns-in_ok-item : goal.returns-in_ok-item
unfolding turn
returns-in_ok-item c = search arguments-reading depth 20

pub returns-else-self-ge1 : goal.returns-else-self-ge1
unfolding turn
returns-else-self-ge1 c = search arguments-reading depth 20
