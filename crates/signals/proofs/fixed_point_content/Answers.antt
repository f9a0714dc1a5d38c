-- `signals::fixed_point_content` meets its contract: `search` goes through the rule as the code does.
use Rattle.signals.proofs.Reading.{contents}
use Rattle.signals.proofs.fixed_point_content.Goals as goal

pub returns-then-rest-n : goal.returns-then-rest-n
returns-then-rest-n c = search contents depth 20

pub returns : goal.returns
returns c = search contents depth 20
