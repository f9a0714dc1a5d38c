-- `signals::signal_at` meets its contract: `search` goes through the rule as the code does.
use Rattle.signals.proofs.Reading.{one-signal}
use Rattle.signals.proofs.signal_at.Goals as goal

pub returns-in_err-info : goal.returns-in_err-info
returns-in_err-info c = search one-signal depth 20

pub returns-in-Ok : goal.returns-in-Ok
returns-in-Ok c = search one-signal depth 20

pub returns-in-Err-Need : goal.returns-in-Err-Need
returns-in-Err-Need c = search one-signal depth 20

pub returns-in-Err-Hickup : goal.returns-in-Err-Hickup
returns-in-Err-Hickup c = search one-signal depth 20
