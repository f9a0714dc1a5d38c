use mathlib.Core.Path.{sym}
use lib.Ieee.{binary32, of_bits, div}
use Rattle.reals.proofs.Patterns.{is_nan_lem, is_number, one_nan}
use Rattle.reals.proofs.float_of.Goals as goal

pub returns-then-bits-gt2139095040 : goal.returns-then-bits-gt2139095040
unfolding of_bits div
returns-then-bits-gt2139095040 c = sym (one_nan binary32 _ (is_nan_lem binary32 _ c.if-bits-gt2139095040.true))

pub float_from_bits-result : goal.float_from_bits-result
float_from_bits-result c = rw (is_number binary32 _ c.if-bits-gt2139095040.false) tt
