-- `signals::in_data` meets its contract: `search` goes through the rule as the code does.
use Rattle.signals.proofs.Reading.{contents}
use Rattle.signals.specs.Signal.{in_data_of}
use Rattle.signals.proofs.in_data.Goals as goal

pub returns-in_err-content : goal.returns-in_err-content
unfolding in_data_of
returns-in_err-content c = search contents depth 20

pub returns : goal.returns
unfolding in_data_of
returns c = search contents depth 20
