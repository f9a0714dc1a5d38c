-- The laws of floats, and that every pattern comes back to the bit.
use Prim.Native.Nat.{ℕ, ◌<◌, ◌^◌}
use mathlib.Core.Path.{◌≡◌, refl}
use mathlib.Core.Bool.{Bool}
use lib.Ieee.{binary32, binary64}
use Rattle.wire.specs.Lawful.{Lawful}
use Rattle.wire.proofs.Digits.{numeric_law}
use Rattle.reals.specs.Real.{real32_of, real64_of, float32, float64, pattern32, pattern64}
use Rattle.reals.specs.declared.Real32.{Real32}
use Rattle.reals.specs.declared.Real64.{Real64}
use Rattle.reals.proofs.Patterns.{to_the_bit}

pub float32_law : (big : Bool) → Lawful (float32 big)
unfolding float32
float32_law big = numeric_law real32_of big 4

pub float64_law : (big : Bool) → Lawful (float64 big)
unfolding float64
float64_law big = numeric_law real64_of big 8

-- ---- a float read and written back gives the same pattern, for every pattern
pub written_back32 : (b : ℕ) → b < 2 ^ 32 → pattern32 (real32_of b) ≡ b
written_back32 b h = to_the_bit binary32 Real32.Number Real32.NotANumber b pattern32 (λ x. refl) (λ n. refl) h

pub written_back64 : (b : ℕ) → b < 2 ^ 64 → pattern64 (real64_of b) ≡ b
written_back64 b h = to_the_bit binary64 Real64.Number Real64.NotANumber b pattern64 (λ x. refl) (λ n. refl) h
