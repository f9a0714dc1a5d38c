use lib.Ieee.{binary64}
use Rattle.reals.proofs.Patterns.{is_nan_lem, is_number}
use Rattle.reals.proofs.kept64.Goals as goal

pub returns-then-bits-gt9218868437227405312 : goal.returns-then-bits-gt9218868437227405312
returns-then-bits-gt9218868437227405312 c = rw (is_nan_lem binary64 _ c.if-bits-gt9218868437227405312.true)

pub float_from_bits-result : goal.float_from_bits-result
float_from_bits-result c = rw (is_number binary64 _ c.if-bits-gt9218868437227405312.false) tt

pub returns : goal.returns
returns c = rw (is_number binary64 _ c.if-bits-gt9218868437227405312.false)
