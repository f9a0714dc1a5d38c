use lib.Ieee.{binary32}
use Rattle.reals.proofs.Patterns.{is_nan_lem, is_number}
use Rattle.reals.proofs.kept32.Goals as goal

pub returns-then-bits-gt2139095040 : goal.returns-then-bits-gt2139095040
returns-then-bits-gt2139095040 c = rw (is_nan_lem binary32 _ c.if-bits-gt2139095040.true)

pub float_from_bits-result : goal.float_from_bits-result
float_from_bits-result c = rw (is_number binary32 _ c.if-bits-gt2139095040.false) tt

pub returns : goal.returns
returns c = rw (is_number binary32 _ c.if-bits-gt2139095040.false)
