-- `signals::content_of` meets its contract: `search` goes through the rule as the code does.
use Rattle.signals.proofs.Reading.{contents}
use Rattle.signals.specs.Signal.{content}
use Rattle.signals.proofs.content_of.Goals as goal

pub returns-in-Float : goal.returns-in-Float
unfolding content
returns-in-Float c = search contents depth 20

pub returns-in-Signed : goal.returns-in-Signed
unfolding content
returns-in-Signed c = search contents depth 20

pub returns-in-SignedFixedPoint : goal.returns-in-SignedFixedPoint
unfolding content
returns-in-SignedFixedPoint c = search contents depth 20

pub returns-in-Unsigned : goal.returns-in-Unsigned
unfolding content
returns-in-Unsigned c = search contents depth 20

pub returns-in-UnsignedFixedPoint : goal.returns-in-UnsignedFixedPoint
unfolding content
returns-in-UnsignedFixedPoint c = search contents depth 20
