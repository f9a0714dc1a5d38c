-- `signals::raw_content` meets its contract: `search` goes through the rule as the code does.
use Rattle.signals.proofs.Reading.{contents}
use Rattle.signals.specs.Signal.{content}
use Rattle.signals.proofs.raw_content.Goals as goal

pub returns-in_err-size : goal.returns-in_err-size
unfolding content
returns-in_err-size c = search contents depth 20

pub returns-in_err-run : goal.returns-in_err-run
unfolding content
returns-in_err-run c = search contents depth 20

pub returns : goal.returns
unfolding content
returns c = search contents depth 20
