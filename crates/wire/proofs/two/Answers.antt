-- `wire::two` meets its contract: its halves are numbers, and `joined` (proofs/Digits.antt) is the law of every width.
use Rattle.wire.proofs.Digits.{halves}
use Rattle.wire.proofs.two.Goals as goal

pub returns-then-big : goal.returns-then-big
returns-then-big c = search halves depth 20

pub returns-else-big : goal.returns-else-big
returns-else-big c = search halves depth 20
