-- Numbers as values: document 01, type info and "A value may be an f32 or an f64, kept to the bit, not-a-number included". Each rule is said
-- once over width and byte order: so many bytes, and the value that their number means.
use Rattle.std.specs.Prelude.{ℕ, ◌/◌, ◌%◌, ◌^◌, Bool}
use Rattle.std.specs.Float.{binary32, binary64}
use Rattle.std.specs.Float.Ieee.{of_bits}
use Rattle.wire.specs.Answer.{Parser}
use Rattle.wire.specs.Parser.{ret, ◌>>=◌}
use Rattle.wire.specs.Number.{number, numeric}
use Rattle.signed.specs.Twos.{twos}
use Rattle.reals.specs.Real.{real_of}
use Rattle.reals.specs.declared.Real32.{Real32}
use Rattle.reals.specs.declared.Real64.{Real64}
use Rattle.dlt.specs.TypeInfoWord.{length_bytes, float_bytes}
use Rattle.dlt.specs.declared.TypeLength.{TypeLength}
use Rattle.dlt.specs.declared.FloatWidth.{FloatWidth}
use Rattle.dlt.specs.declared.Value.{Value}
use Rattle.dlt.specs.declared.FixedPointValue.{FixedPointValue}
use Rattle.dlt.specs.declared.FixedPoint.{FixedPoint}
use Rattle.values.specs.declared.Numeric.{Numeric}

-- an unsigned number of a width; 128 bits are two halves
unfoldable pub unsigned_of : TypeLength → ℕ → Value
unsigned_of TypeLength.BitLength8 n = Value.U8 n
unsigned_of TypeLength.BitLength16 n = Value.U16 n
unsigned_of TypeLength.BitLength32 n = Value.U32 n
unsigned_of TypeLength.BitLength64 n = Value.U64 n
unsigned_of TypeLength.BitLength128 n = Value.U128 (n / 2 ^ 64) (n % 2 ^ 64)

unfoldable pub uint : Bool → TypeLength → Parser Value
uint big width = numeric (unsigned_of width) big (length_bytes width)

-- a signed number of a width; of 128 bits the high half has the sign
unfoldable pub signed_of : TypeLength → ℕ → Value
signed_of TypeLength.BitLength8 n = Value.I8 (twos 8 n)
signed_of TypeLength.BitLength16 n = Value.I16 (twos 16 n)
signed_of TypeLength.BitLength32 n = Value.I32 (twos 32 n)
signed_of TypeLength.BitLength64 n = Value.I64 (twos 64 n)
signed_of TypeLength.BitLength128 n = Value.I128 (twos 64 (n / 2 ^ 64)) (n % 2 ^ 64)

unfoldable pub sint : Bool → TypeLength → Parser Value
sint big width = numeric (signed_of width) big (length_bytes width)

-- a float of a width, or the pattern of one that is no number
unfoldable pub float_of : FloatWidth → ℕ → Value
float_of FloatWidth.Width32 n = real_of binary32 Value.F32 Value.F32NotANumber n
float_of FloatWidth.Width64 n = real_of binary64 Value.F64 Value.F64NotANumber n

unfoldable pub fint : Bool → FloatWidth → Parser Value
fint big width = numeric (float_of width) big (float_bytes width)

-- a float that was read, as a value
abbrev pub carry32 : Real32 → Value
carry32 (Real32.Number x) = Value.F32 x
carry32 (Real32.NotANumber p) = Value.F32NotANumber p

abbrev pub carry64 : Real64 → Value
carry64 (Real64.Number x) = Value.F64 x
carry64 (Real64.NotANumber p) = Value.F64NotANumber p

-- an integer or a float
unfoldable pub value : Bool → Numeric → Parser Value
value big (Numeric.Unsigned width) = uint big width
value big (Numeric.Signed width) = sint big width
value big (Numeric.Float width) = fint big width

-- a signed offset of a width
unfoldable pub offset_of : FloatWidth → ℕ → FixedPointValue
offset_of FloatWidth.Width32 n = FixedPointValue.I32 (twos 32 n)
offset_of FloatWidth.Width64 n = FixedPointValue.I64 (twos 64 n)

unfoldable pub offset : Bool → FloatWidth → Parser FixedPointValue
offset big width = numeric (offset_of width) big (float_bytes width)

-- a 32-bit quantization and a 32- or 64-bit signed offset
unfoldable pub fixed_point_of : Bool → FloatWidth → Parser FixedPoint
fixed_point_of big width = do
  bits ← number big 4
  off ← offset big width
  ret (record { quantization = of_bits binary32 bits; pattern = bits; offset = off })
