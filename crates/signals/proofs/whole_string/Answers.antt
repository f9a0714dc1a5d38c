-- `signals::whole_string` meets its contract: `search` goes through the rule as the code does.
use Rattle.signals.proofs.Reading.{contents}
use Rattle.signals.proofs.whole_string.Goals as goal

pub returns-then-rest-n : goal.returns-then-rest-n
returns-then-rest-n c = search contents depth 20

pub returns-then-n-valid : goal.returns-then-n-valid
returns-then-n-valid c = search contents depth 20

pub returns-else-n-valid : goal.returns-else-n-valid
returns-else-n-valid c = search contents depth 20
