-- `signals::SignalCursor::next` meets its contract: `search` goes through the rule as the code does.
use Rattle.signals.proofs.Reading.{signals-reading}
use Rattle.signals.specs.Signals.{signal_turn}
use Rattle.signals.proofs.SignalCursor.next.Goals as goal

pub returns-in_err-item : goal.returns-in_err-item
unfolding signal_turn
returns-in_err-item c = search signals-reading depth 20

pub returns-in_ok-item : goal.returns-in_ok-item
unfolding signal_turn
returns-in_ok-item c = search signals-reading depth 20

pub returns-else-i-words : goal.returns-else-i-words
unfolding signal_turn
returns-else-i-words c = search signals-reading depth 20
