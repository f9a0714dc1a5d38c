-- The numbers of an argument and of the cursor behind it, in the order in which a host finds them in the slice that it lends. A place is counted
-- from 0. What is absent has 0 for its flag and for its values. A text or a run of bytes is its place in the bytes and its length; why a text ended stands
-- behind everything else.
use Rattle.std.specs.Prelude.{ℕ, ◌-◌, Bool, List, [], ◌∷◌, ◌++◌, length, ℤ, pos, negsuc, leb, Option, Some, None}
use Rattle.std.specs.Float.{binary32, binary64}
use Rattle.std.specs.Float.Ieee.{to_bits}
use Rattle.wire.specs.Parser.{pick}
use Rattle.table.specs.Over.{over}
use Rattle.dlt.specs.declared.Argument.{Argument}
use Rattle.dlt.specs.declared.FixedPointValue.{FixedPointValue}
use Rattle.dlt.specs.declared.FloatWidth.{FloatWidth}
use Rattle.dlt.specs.declared.StringCoding.{StringCoding}
use Rattle.dlt.specs.declared.TypeInfo.{TypeInfo}
use Rattle.dlt.specs.declared.TypeInfoKind.{TypeInfoKind}
use Rattle.dlt.specs.declared.TypeLength.{TypeLength}
use Rattle.dlt.specs.declared.Value.{Value}
use Rattle.numbers.specs.Layout.{one_if_of, text_numbers, ended_number_of, text_end_of}
use Rattle.dlt.specs.declared.FixedPoint.{FixedPoint}
use Rattle.wire.specs.declared.Text.{Text}

-- a signed number by two's complement of 64 bits; `negsuc n` is the negative of n + 1
abbrev pub signed_bits_of : ℤ → ℕ
signed_bits_of (pos n) = n
signed_bits_of (negsuc n) = 18446744073709551615 - n

-- ---- the type info
abbrev pub length_bits_of : TypeLength → ℕ
length_bits_of TypeLength.BitLength8 = 8
length_bits_of TypeLength.BitLength16 = 16
length_bits_of TypeLength.BitLength32 = 32
length_bits_of TypeLength.BitLength64 = 64
length_bits_of TypeLength.BitLength128 = 128

abbrev pub width_bits : FloatWidth → ℕ
width_bits FloatWidth.Width32 = 32
width_bits FloatWidth.Width64 = 64

abbrev pub kind_number_of : TypeInfoKind → ℕ
kind_number_of TypeInfoKind.Bool = 0
kind_number_of (TypeInfoKind.Signed l) = 1
kind_number_of (TypeInfoKind.SignedFixedPoint w) = 2
kind_number_of (TypeInfoKind.Unsigned l) = 3
kind_number_of (TypeInfoKind.UnsignedFixedPoint w) = 4
kind_number_of (TypeInfoKind.Float w) = 5
kind_number_of TypeInfoKind.StringType = 6
kind_number_of TypeInfoKind.Raw = 7

-- how many bits a number has; 0 where it is none
abbrev pub kind_bits_of : TypeInfoKind → ℕ
kind_bits_of TypeInfoKind.Bool = 0
kind_bits_of (TypeInfoKind.Signed l) = length_bits_of l
kind_bits_of (TypeInfoKind.SignedFixedPoint w) = width_bits w
kind_bits_of (TypeInfoKind.Unsigned l) = length_bits_of l
kind_bits_of (TypeInfoKind.UnsignedFixedPoint w) = width_bits w
kind_bits_of (TypeInfoKind.Float w) = width_bits w
kind_bits_of TypeInfoKind.StringType = 0
kind_bits_of TypeInfoKind.Raw = 0

abbrev pub coding_number_of : StringCoding → ℕ
coding_number_of StringCoding.ASCII = 0
coding_number_of StringCoding.UTF8 = 1
coding_number_of (StringCoding.Reserved n) = n

-- ---- the value: which it is, and its one or two numbers. A float is its pattern, not-a-number included; 128 bits are the high half and the low
abbrev pub value_number_of : Value → ℕ
value_number_of (Value.Bool n) = 0
value_number_of (Value.U8 n) = 1
value_number_of (Value.U16 n) = 2
value_number_of (Value.U32 n) = 3
value_number_of (Value.U64 n) = 4
value_number_of (Value.U128 h l) = 5
value_number_of (Value.I8 n) = 6
value_number_of (Value.I16 n) = 7
value_number_of (Value.I32 n) = 8
value_number_of (Value.I64 n) = 9
value_number_of (Value.I128 h l) = 10
value_number_of (Value.F32 x) = 11
value_number_of (Value.F64 x) = 12
value_number_of (Value.F32NotANumber p) = 11
value_number_of (Value.F64NotANumber p) = 12
value_number_of (Value.StringVal t) = 13
value_number_of (Value.Raw r) = 14

abbrev pub value_first_of : Value → ℕ
value_first_of (Value.Bool n) = n
value_first_of (Value.U8 n) = n
value_first_of (Value.U16 n) = n
value_first_of (Value.U32 n) = n
value_first_of (Value.U64 n) = n
value_first_of (Value.U128 h l) = h
value_first_of (Value.I8 n) = signed_bits_of n
value_first_of (Value.I16 n) = signed_bits_of n
value_first_of (Value.I32 n) = signed_bits_of n
value_first_of (Value.I64 n) = signed_bits_of n
value_first_of (Value.I128 h l) = signed_bits_of h
value_first_of (Value.F32 x) = to_bits binary32 x
value_first_of (Value.F64 x) = to_bits binary64 x
value_first_of (Value.F32NotANumber p) = p
value_first_of (Value.F64NotANumber p) = p
value_first_of (Value.StringVal t) = t.place.start
value_first_of (Value.Raw r) = r.start

abbrev pub value_second_of : Value → ℕ
value_second_of (Value.Bool n) = 0
value_second_of (Value.U8 n) = 0
value_second_of (Value.U16 n) = 0
value_second_of (Value.U32 n) = 0
value_second_of (Value.U64 n) = 0
value_second_of (Value.U128 h l) = l
value_second_of (Value.I8 n) = 0
value_second_of (Value.I16 n) = 0
value_second_of (Value.I32 n) = 0
value_second_of (Value.I64 n) = 0
value_second_of (Value.I128 h l) = l
value_second_of (Value.F32 x) = 0
value_second_of (Value.F64 x) = 0
value_second_of (Value.F32NotANumber p) = 0
value_second_of (Value.F64NotANumber p) = 0
value_second_of (Value.StringVal t) = t.place.len
value_second_of (Value.Raw r) = r.len

-- why a string ended; no other value has a reason
abbrev pub value_end_of : Value → ℕ
value_end_of (Value.Bool n) = 0
value_end_of (Value.U8 n) = 0
value_end_of (Value.U16 n) = 0
value_end_of (Value.U32 n) = 0
value_end_of (Value.U64 n) = 0
value_end_of (Value.U128 h l) = 0
value_end_of (Value.I8 n) = 0
value_end_of (Value.I16 n) = 0
value_end_of (Value.I32 n) = 0
value_end_of (Value.I64 n) = 0
value_end_of (Value.I128 h l) = 0
value_end_of (Value.F32 x) = 0
value_end_of (Value.F64 x) = 0
value_end_of (Value.F32NotANumber p) = 0
value_end_of (Value.F64NotANumber p) = 0
value_end_of (Value.StringVal t) = ended_number_of t.ended
value_end_of (Value.Raw r) = 0

abbrev pub offset_width_of : FixedPointValue → ℕ
offset_width_of (FixedPointValue.I32 n) = 32
offset_width_of (FixedPointValue.I64 n) = 64

abbrev pub offset_bits_of : FixedPointValue → ℕ
offset_bits_of (FixedPointValue.I32 n) = signed_bits_of n
offset_bits_of (FixedPointValue.I64 n) = signed_bits_of n

-- ---- from place 3 on, seven: start and end of the argument; kind, bits; coding, variable info or not, trace info or not
unfoldable pub kind_numbers : TypeInfoKind → List ℕ
kind_numbers k = kind_number_of k ∷ kind_bits_of k ∷ []

unfoldable pub coding_numbers : TypeInfo → List ℕ
coding_numbers t = coding_number_of t.coding ∷ one_if_of t.has_variable_info ∷ one_if_of t.has_trace_info ∷ []

unfoldable pub type_numbers : Argument → List ℕ
type_numbers a = ((a.start ∷ a.end ∷ []) ++ kind_numbers a.type_info.kind) ++ coding_numbers a.type_info

-- ---- from place 10 on, thirteen: name; unit; fixed point or not, the quantization's pattern, the offset's bits, the offset; the value
unfoldable pub name_numbers : Option Text → Option Text → List ℕ
name_numbers name unit = text_numbers name ++ text_numbers unit

unfoldable pub point_numbers : Option FixedPoint → List ℕ
point_numbers (Some p) = 1 ∷ p.pattern ∷ offset_width_of p.offset ∷ offset_bits_of p.offset ∷ []
point_numbers None = 0 ∷ 0 ∷ 0 ∷ 0 ∷ []

unfoldable pub value_numbers : Value → List ℕ
value_numbers v = value_number_of v ∷ value_first_of v ∷ value_second_of v ∷ []

unfoldable pub content_numbers : Argument → List ℕ
content_numbers a = (name_numbers a.name a.unit ++ point_numbers a.fixed_point) ++ value_numbers a.value

-- ---- from place 23 on, three: why the name, the unit and the value ended
unfoldable pub argument_ends : Argument → List ℕ
argument_ends a = text_end_of a.name ∷ text_end_of a.unit ∷ value_end_of a.value ∷ []

-- ---- the cursor behind the argument in front: where the next stands, how many are left (of signals: which word is next), big-endian or not
unfoldable pub argument_numbers : ℕ → ℕ → Bool → Argument → List ℕ
argument_numbers at left big a = (((at ∷ left ∷ one_if_of big ∷ []) ++ type_numbers a) ++ content_numbers a) ++ argument_ends a

-- how many numbers there are, and what is left in a slice: nothing is written into one that is too short
abbrev pub argument_size : ℕ
argument_size = 26

unfoldable pub argument_laid : List ℕ → ℕ → ℕ → Bool → Argument → List ℕ
argument_laid T at left big a = pick (leb argument_size (length T)) (over T 0 (argument_numbers at left big a)) T
