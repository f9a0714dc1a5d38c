-- `strings::why_ended` meets its contract: each way through it is a law of `reasons`.
use Rattle.strings.proofs.Reasons.{reasons}
use Rattle.strings.proofs.why_ended.Goals as goal

pub returns-then-len-n : goal.returns-then-len-n
returns-then-len-n c = search reasons depth 20

pub returns-then-s-at-eq0 : goal.returns-then-s-at-eq0
returns-then-s-at-eq0 c = search reasons depth 20

pub returns-else-s-at-eq0 : goal.returns-else-s-at-eq0
returns-else-s-at-eq0 c = search reasons depth 20
