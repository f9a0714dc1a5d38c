-- `dlt::type_len_float` meets its contract: a row for each key.
use Rattle.std.proofs.Common.{rules}
use Rattle.dlt.specs.TypeInfoWord.{float_width_of}
use Rattle.dlt.proofs.type_len_float.Goals as goal

pub returns-in-3 : goal.returns-in-3
unfolding float_width_of
returns-in-3 c = rw c.in-3.is

pub returns-in-4 : goal.returns-in-4
unfolding float_width_of
returns-in-4 c = rw c.in-4.is

pub returns-in_default : goal.returns-in_default
unfolding float_width_of
returns-in_default c = search rules
