-- `signals::bool_content` meets its contract: `search` goes through the rule as the code does.
use Rattle.signals.proofs.Reading.{contents}
use Rattle.signals.specs.Signal.{content}
use Rattle.signals.proofs.bool_content.Goals as goal

pub returns-in_err-byte : goal.returns-in_err-byte
unfolding content
returns-in_err-byte c = search contents depth 20

pub returns : goal.returns
unfolding content
returns c = search contents depth 20
