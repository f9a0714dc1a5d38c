-- `arguments::argument_of` meets its contract: `search` goes through the rule as the code does.
use Rattle.arguments.proofs.Reading.{arguments-reading}
use Rattle.arguments.specs.Argument.{kinded}
use Rattle.arguments.proofs.argument_of.Goals as goal

pub returns-in-Signed : goal.returns-in-Signed
unfolding kinded
returns-in-Signed c = search arguments-reading depth 20

pub returns-in-SignedFixedPoint : goal.returns-in-SignedFixedPoint
unfolding kinded
returns-in-SignedFixedPoint c = search arguments-reading depth 20

pub returns-in-Unsigned : goal.returns-in-Unsigned
unfolding kinded
returns-in-Unsigned c = search arguments-reading depth 20

pub returns-in-UnsignedFixedPoint : goal.returns-in-UnsignedFixedPoint
unfolding kinded
returns-in-UnsignedFixedPoint c = search arguments-reading depth 20

pub returns-in-Float : goal.returns-in-Float
unfolding kinded
returns-in-Float c = search arguments-reading depth 20

pub returns-in-Raw : goal.returns-in-Raw
unfolding kinded
returns-in-Raw c = search arguments-reading depth 20

pub returns-in-Bool : goal.returns-in-Bool
unfolding kinded
returns-in-Bool c = search arguments-reading depth 20

pub returns-in-StringType : goal.returns-in-StringType
unfolding kinded
returns-in-StringType c = search arguments-reading depth 20
