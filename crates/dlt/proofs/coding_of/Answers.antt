-- `dlt::coding_of` meets its contract: a row for each key.
use Rattle.std.proofs.Common.{rules}
use Rattle.dlt.specs.TypeInfoWord.{coding_of_lem}
use Rattle.dlt.proofs.coding_of.Goals as goal

pub returns-in-0 : goal.returns-in-0
unfolding coding_of_lem
returns-in-0 c = rw c.in-0.is

pub returns-in-1 : goal.returns-in-1
unfolding coding_of_lem
returns-in-1 c = rw c.in-1.is

pub returns-in_default : goal.returns-in_default
unfolding coding_of_lem
returns-in_default c = search rules
