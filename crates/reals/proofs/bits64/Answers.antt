use mathlib.Core.Path.{refl}
use lib.Ieee.{binary64}
use Rattle.reals.specs.Real.{pattern64}
use Rattle.reals.specs.declared.Real64.{Real64}
use Rattle.reals.proofs.Patterns.{like_itself, nan_written, number_written}
use Rattle.reals.proofs.bits64.Goals as goal

pub returns-then-x : goal.returns-then-x
returns-then-x c = nan_written binary64 pattern64 Real64.Number (λ x. refl) _ _ c.in-Number.is c.if-x.true

pub float_to_bits-result : goal.float_to_bits-result
float_to_bits-result c = like_itself _ c.if-x.false

pub returns-else-x : goal.returns-else-x
returns-else-x c = number_written binary64 pattern64 Real64.Number (λ x. refl) _ _ c.in-Number.is
