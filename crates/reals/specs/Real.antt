-- What is kept of a float's pattern, and floats of some bytes: document 01, "an f32 or an f64, kept to the bit, not-a-number included".
-- `nan_bits` says that the exponent's field is all ones and the digits' field isn't 0.
use Rattle.std.specs.Prelude.{ℕ, Bool, Float}
use Rattle.std.specs.Float.{Format, binary32, binary64}
use Rattle.std.specs.Float.Ieee.{nan_bits, of_bits, to_bits}
use Rattle.wire.specs.Answer.{Parser}
use Rattle.wire.specs.Parser.{pick}
use Rattle.wire.specs.Number.{numeric}
use Rattle.reals.specs.declared.Real32.{Real32}
use Rattle.reals.specs.declared.Real64.{Real64}

-- at either format: the pattern itself where it is a NaN's, else the float that it stands for
abbrev pub real_of : {X : Type 0} → Format → (Float → X) → (ℕ → X) → ℕ → X
real_of f number pattern b = pick (nan_bits f b) (pattern b) (number (of_bits f b))

abbrev pub real32_of : ℕ → Real32
real32_of = real_of binary32 Real32.Number Real32.NotANumber

abbrev pub real64_of : ℕ → Real64
real64_of = real_of binary64 Real64.Number Real64.NotANumber

-- four or eight bytes as a float
unfoldable pub float32 : Bool → Parser Real32
float32 big = numeric real32_of big 4

unfoldable pub float64 : Bool → Parser Real64
float64 big = numeric real64_of big 8

-- the pattern that was kept; `to_bits` writes one for the logic's one NaN too
abbrev pub pattern32 : Real32 → ℕ
pattern32 (Real32.Number x) = to_bits binary32 x
pattern32 (Real32.NotANumber b) = b

abbrev pub pattern64 : Real64 → ℕ
pattern64 (Real64.Number x) = to_bits binary64 x
pattern64 (Real64.NotANumber b) = b
