-- The type info words that the crate and the protocol both have, that the crate alone accepts, and that the protocol alone has; and what the
-- crate's answer says in the protocol's words.
use Rattle.std.specs.Prelude.{ℕ, ◌+◌, ◌*◌, Bool, true, false, eqb}
use Rattle.wire.specs.Parser.{pick}
use Rattle.headertype.specs.Bits.{no, both, either, from_to, one_if_of}
use Rattle.dlt.specs.TypeInfoWord.{length_bytes, float_bytes}
use Rattle.dlt.specs.Accepted.{acceptable}
use Rattle.dlt.specs.Kept.{coding_number_of}
use Rattle.dlt.specs.declared.TypeInfoKind.{TypeInfoKind}
use Rattle.dlt.specs.declared.TypeInfo.{TypeInfo}
use Rattle.protocol.specs.TypeInfo.{Word, fields_of, integer, tidy, has, Meaning}

-- ---- both: one of the six types alone; a bool of 8 bits, integers of 8 to 128 or in fixed point 32 or 64, floats of 32 or 64; fixed point on
-- integers only; coding 0 or 1; no bit that is reserved
abbrev pub six_types : Word → ℕ
six_types i = one_if_of i.BOOL + one_if_of i.SINT + one_if_of i.UINT + one_if_of i.FLOA + one_if_of i.STRG + one_if_of i.RAWD

abbrev pub length_of_both : Word → Bool
length_of_both i =
    pick i.BOOL (eqb i.TYLE 1)
    (pick (integer i) (pick i.FIXP (from_to 3 4 i.TYLE) (from_to 1 5 i.TYLE))
    (pick i.FLOA (from_to 3 4 i.TYLE) true))

abbrev pub six_of_both : Word → Bool
six_of_both i =
    both (eqb (six_types i) 1)
    (both (no (either i.ARAY (either i.TRAI i.STRU)))
    (both (length_of_both i) (pick i.FIXP (integer i) true)))

abbrev pub both_have : ℕ → Bool
both_have w = both (six_of_both (fields_of w)) (tidy (fields_of w))

-- ---- the crate alone: of the words that it accepts, those with a bool of another length than 8 bits, with fixed point on no integer, with trace
-- info or struct beside the type, with a coding above 1, or with a reserved bit
abbrev pub loose_type : Word → Bool
loose_type i =
    either (both i.BOOL (no (eqb i.TYLE 1)))
    (either (both i.FIXP (no (integer i)))
    (either i.TRAI i.STRU))

abbrev pub loose : Word → Bool
loose i = either (loose_type i) (no (tidy i))

abbrev pub crate_alone : ℕ → Bool
crate_alone w = both (acceptable w) (loose (fields_of w))

-- ---- the protocol alone: of the words that it has, arrays, trace info, structs, floats of 16 or 128 bits, and fixed point of 8, 16 or 128 bits
abbrev pub unread : Word → Bool
unread i =
    either i.ARAY
    (either i.TRAI
    (either i.STRU
    (either (both i.FLOA (no (from_to 3 4 i.TYLE)))
    (both i.FIXP (no (from_to 3 4 i.TYLE))))))

abbrev pub protocol_alone : ℕ → Bool
protocol_alone w = both (has (fields_of w)) (unread (fields_of w))

-- ---- the crate's answer in the protocol's words
abbrev pub kind_type : TypeInfoKind → ℕ
kind_type TypeInfoKind.Bool = 4
kind_type (TypeInfoKind.Signed w) = 5
kind_type (TypeInfoKind.SignedFixedPoint w) = 5
kind_type (TypeInfoKind.Unsigned w) = 6
kind_type (TypeInfoKind.UnsignedFixedPoint w) = 6
kind_type (TypeInfoKind.Float w) = 7
kind_type TypeInfoKind.StringType = 9
kind_type TypeInfoKind.Raw = 10

-- a bool is read as one byte
abbrev pub kind_width : TypeInfoKind → ℕ
kind_width TypeInfoKind.Bool = 8
kind_width (TypeInfoKind.Signed w) = length_bytes w * 8
kind_width (TypeInfoKind.SignedFixedPoint w) = float_bytes w * 8
kind_width (TypeInfoKind.Unsigned w) = length_bytes w * 8
kind_width (TypeInfoKind.UnsignedFixedPoint w) = float_bytes w * 8
kind_width (TypeInfoKind.Float w) = float_bytes w * 8
kind_width TypeInfoKind.StringType = 0
kind_width TypeInfoKind.Raw = 0

abbrev pub kind_fixed : TypeInfoKind → Bool
kind_fixed TypeInfoKind.Bool = false
kind_fixed (TypeInfoKind.Signed w) = false
kind_fixed (TypeInfoKind.SignedFixedPoint w) = true
kind_fixed (TypeInfoKind.Unsigned w) = false
kind_fixed (TypeInfoKind.UnsignedFixedPoint w) = true
kind_fixed (TypeInfoKind.Float w) = false
kind_fixed TypeInfoKind.StringType = false
kind_fixed TypeInfoKind.Raw = false

abbrev pub told : TypeInfo → Meaning
told i = record {
  type = kind_type i.kind;
  width = kind_width i.kind;
  fixp = kind_fixed i.kind;
  vari = i.has_variable_info;
  scod = coding_number_of i.coding;
}
