-- Document 01, type info: bits 0 to 3 length (1 to 5 for 8 to 128 bits), 4 bool, 5 signed, 6 unsigned, 7 float, 9 string, 10 raw,
-- 11 variable info, 12 fixed point, 13 trace info, 15 to 17 coding.
use Rattle.std.specs.Prelude.{ℕ, ◌/◌, ◌%◌, Bool, eqb, Result, Ok, Err, Option, Some, None}
use Rattle.wire.specs.Answer.{Ans}
use Rattle.wire.specs.Answer.Ans.{done, hickup}
use Rattle.wire.specs.Parser.{pick}
use Rattle.headertype.specs.Bits.{flag}
use Rattle.dlt.specs.declared.TypeLength.{TypeLength}
use Rattle.dlt.specs.declared.FloatWidth.{FloatWidth}
use Rattle.dlt.specs.declared.TypeInfoKind.{TypeInfoKind}
use Rattle.dlt.specs.declared.StringCoding.{StringCoding}
use Rattle.dlt.specs.declared.TypeInfo.{TypeInfo}
use Rattle.dlt.specs.declared.NoTypeInfo.{NoTypeInfo}

-- the lengths by their number
unfoldable pub type_length_of : ℕ → Option TypeLength
type_length_of n =
    pick (eqb n 1) (Some TypeLength.BitLength8)
    (pick (eqb n 2) (Some TypeLength.BitLength16)
    (pick (eqb n 3) (Some TypeLength.BitLength32)
    (pick (eqb n 4) (Some TypeLength.BitLength64)
    (pick (eqb n 5) (Some TypeLength.BitLength128) None))))

-- floats and fixed-point numbers have 32 or 64 bits
unfoldable pub float_width_of : ℕ → Option FloatWidth
float_width_of n =
    pick (eqb n 3) (Some FloatWidth.Width32)
    (pick (eqb n 4) (Some FloatWidth.Width64) None)

-- the bytes of a value
abbrev pub length_bytes : TypeLength → ℕ
length_bytes TypeLength.BitLength8 = 1
length_bytes TypeLength.BitLength16 = 2
length_bytes TypeLength.BitLength32 = 4
length_bytes TypeLength.BitLength64 = 8
length_bytes TypeLength.BitLength128 = 16

-- 32 and 64 bits among the lengths
abbrev pub wide_length : FloatWidth → TypeLength
wide_length FloatWidth.Width32 = TypeLength.BitLength32
wide_length FloatWidth.Width64 = TypeLength.BitLength64

abbrev pub float_bytes : FloatWidth → ℕ
float_bytes w = length_bytes (wide_length w)

-- a kind with its width, if it has one
abbrev pub sized : (TypeLength → TypeInfoKind) → Option TypeLength → Option TypeInfoKind
sized k (Some w) = Some (k w)
sized k None = None

abbrev pub float_sized : (FloatWidth → TypeInfoKind) → Option FloatWidth → Option TypeInfoKind
float_sized k (Some w) = Some (k w)
float_sized k None = None

unfoldable pub signed_of : ℕ → Bool → Option TypeInfoKind
signed_of length fixed =
    pick fixed (float_sized TypeInfoKind.SignedFixedPoint (float_width_of length)) (sized TypeInfoKind.Signed (type_length_of length))

unfoldable pub unsigned_of : ℕ → Bool → Option TypeInfoKind
unsigned_of length fixed =
    pick fixed (float_sized TypeInfoKind.UnsignedFixedPoint (float_width_of length)) (sized TypeInfoKind.Unsigned (type_length_of length))

unfoldable pub float_of : ℕ → Option TypeInfoKind
float_of length = float_sized TypeInfoKind.Float (float_width_of length)

-- bits 4 to 10 by their number: exactly one kind, and no array
unfoldable pub kind_by : ℕ → ℕ → Bool → Option TypeInfoKind
kind_by bits length fixed =
    pick (eqb bits 1) (Some TypeInfoKind.Bool)
    (pick (eqb bits 2) (signed_of length fixed)
    (pick (eqb bits 4) (unsigned_of length fixed)
    (pick (eqb bits 8) (float_of length)
    (pick (eqb bits 32) (Some TypeInfoKind.StringType)
    (pick (eqb bits 64) (Some TypeInfoKind.Raw) None)))))

abbrev pub kind_of : ℕ → Option TypeInfoKind
kind_of word = kind_by (word / 16 % 128) (word % 16) (flag 4096 word)

unfoldable pub coding_of_lem : ℕ → StringCoding
coding_of_lem n = pick (eqb n 0) StringCoding.ASCII (pick (eqb n 1) StringCoding.UTF8 (StringCoding.Reserved n))

abbrev pub decoded_of : ℕ → Option TypeInfoKind → Result TypeInfo NoTypeInfo
decoded_of word (Some k) = Ok (record {
  kind = k;
  coding = coding_of_lem (word / 32768 % 8);
  has_variable_info = flag 2048 word;
  has_trace_info = flag 8192 word;
})
decoded_of word None = Err (record {})

unfoldable pub type_info_of_lem : ℕ → Result TypeInfo NoTypeInfo
type_info_of_lem word = decoded_of word (kind_of word)

-- document 01's answer, at the position behind the word: the type info, or Hickup 2
abbrev pub decoded_ans : Result TypeInfo NoTypeInfo → ℕ → Ans TypeInfo
decoded_ans (Ok i) next = done i next
decoded_ans (Err r) next = hickup 2
