use native.Mathlib.Omega.{arith}
use mathlib.Core.Path.{ap, ◌∙◌}
use mir.Syntax.{w64}
use mir.Val.{to_z, of_z}
use mir.Facts.{sfits_to_z, Fits-of_z, to_z-of_z}
use Rattle.numbers.specs.Arguments.{signed_bits_of}
use Rattle.numbers.proofs.Signed.{upper, upper_is, lower_fits, lower, lower_is}
use Rattle.numbers.proofs.signed_bits.Goals as goal

pub overflow_cast-result : goal.overflow_cast-result
overflow_cast-result c = upper _ (sfits_to_z (Fits-of_z c.ranges.n)) c.if-n-ge0.true

pub returns-then-n-ge0 : goal.returns-then-n-ge0
returns-then-n-ge0 c = upper_is (to_z w64 (of_z w64 c.args.n)) c.if-n-ge0.true ∙ ap signed_bits_of (to_z-of_z c.ranges.n)

pub overflow_sub-result : goal.overflow_sub-result
overflow_sub-result c = lower_fits _ (sfits_to_z (Fits-of_z c.ranges.n)) c.if-n-ge0.false

pub overflow_cast-result-2 : goal.overflow_cast-result-2
overflow_cast-result-2 c = let d = lower _ (sfits_to_z (Fits-of_z c.ranges.n)) c.if-n-ge0.false in (d.0, record { fits = omega arith })

pub overflow_sub-result-2 : goal.overflow_sub-result-2
overflow_sub-result-2 c = omega (arith, (lower _ (sfits_to_z (Fits-of_z c.ranges.n)) c.if-n-ge0.false).1)

pub returns : goal.returns
returns c = lower_is (to_z w64 (of_z w64 c.args.n)) (sfits_to_z (Fits-of_z c.ranges.n)) c.if-n-ge0.false ∙ ap signed_bits_of (to_z-of_z c.ranges.n)
