-- What a decoded type info still says of the bits that it was made of.
use Rattle.std.specs.Prelude.{ℕ, ◌+◌, ◌*◌, ◌/◌, ◌%◌, Bool, eqb, Result, Ok, Err}
use Rattle.wire.specs.Parser.{pick}
use Rattle.headertype.specs.Bits.{bit, either, one_if_of}
use Rattle.dlt.specs.TypeInfoWord.{wide_length}
use Rattle.dlt.specs.declared.TypeLength.{TypeLength}
use Rattle.dlt.specs.declared.TypeInfoKind.{TypeInfoKind}
use Rattle.dlt.specs.declared.StringCoding.{StringCoding}
use Rattle.dlt.specs.declared.TypeInfo.{TypeInfo}
use Rattle.dlt.specs.declared.NoTypeInfo.{NoTypeInfo}

-- the length's number, the kind's bits with their length and the fixed-point bit, and the word
abbrev pub length_number : TypeLength → ℕ
length_number TypeLength.BitLength8 = 1
length_number TypeLength.BitLength16 = 2
length_number TypeLength.BitLength32 = 3
length_number TypeLength.BitLength64 = 4
length_number TypeLength.BitLength128 = 5

abbrev pub kind_word : TypeInfoKind → ℕ
kind_word TypeInfoKind.Bool = 16
kind_word (TypeInfoKind.Signed w) = 32 + length_number w
kind_word (TypeInfoKind.SignedFixedPoint w) = 4096 + 32 + length_number (wide_length w)
kind_word (TypeInfoKind.Unsigned w) = 64 + length_number w
kind_word (TypeInfoKind.UnsignedFixedPoint w) = 4096 + 64 + length_number (wide_length w)
kind_word (TypeInfoKind.Float w) = 128 + length_number (wide_length w)
kind_word TypeInfoKind.StringType = 512
kind_word TypeInfoKind.Raw = 1024

abbrev pub coding_number_of : StringCoding → ℕ
coding_number_of StringCoding.ASCII = 0
coding_number_of StringCoding.UTF8 = 1
coding_number_of (StringCoding.Reserved n) = n

-- the word of a type info, and of a decoded one
abbrev pub word_of : TypeInfo → ℕ
word_of i =
    kind_word i.kind + one_if_of i.has_variable_info * 2048 + one_if_of i.has_trace_info * 8192 + coding_number_of i.coding * 32768

abbrev pub decoded_word : Result TypeInfo NoTypeInfo → ℕ
decoded_word (Ok i) = word_of i
decoded_word (Err r) = 0

-- what is kept of a word: bits 4 to 10, 11, 13 and 15 to 17; the length of an integer or a float; the fixed-point bit of an integer.
-- So bits 14 and 18 to 31 are dropped, and with them the length of a bool, a string and raw bytes, and the fixed-point bit of all but integers
abbrev pub integer : ℕ → Bool
integer bits = either (eqb bits 2) (eqb bits 4)

abbrev pub kept_length : ℕ → ℕ → ℕ
kept_length bits length = pick (either (integer bits) (eqb bits 8)) length 0

abbrev pub kept_fixed : ℕ → ℕ → ℕ
kept_fixed bits fixed = pick (integer bits) fixed 0

abbrev pub packed : ℕ → ℕ → ℕ → ℕ → ℕ → ℕ → ℕ
packed bits length fixed variable trace coding =
    bits * 16 + length + fixed * 4096 + variable * 2048 + trace * 8192 + coding * 32768

unfoldable pub kept_bits : ℕ → ℕ
kept_bits w =
    packed (w / 16 % 128) (kept_length (w / 16 % 128) (w % 16)) (kept_fixed (w / 16 % 128) (bit 4096 w))
    (bit 2048 w) (bit 8192 w) (w / 32768 % 8)
