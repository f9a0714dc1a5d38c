-- Worked examples, on the rule. Each computes.
use mathlib.Core.Path.{◌≡◌, refl}
use mathlib.Core.List.{[], ◌∷◌}
use mathlib.Core.Bool.{true, false}
use Prim.Native.Nat.{ℕ}
use lib.Ieee.{nan_bits}
use lib.IntN.{pos, negsuc}
use Rattle.wire.specs.Answer.{Ans}
use Rattle.wire.specs.Answer.Ans.{done, need, hickup, broken}
use Rattle.wire.specs.Parser.{ret, here, choose, asking, having, fixed, ◌>>=◌}
use Rattle.wire.specs.Number.{number, number_of, numeric}
use Rattle.wire.specs.Run.{range, bytes}
use Rattle.wire.specs.declared.Ended.{Ended}
use Rattle.wire.specs.declared.Text.{Text}
use Rattle.strings.specs.Utf8.{formed, among, sequence, up_to, valid_up_to_of}
use Rattle.strings.specs.Text.{text, text_of, ended_of, ended_text}
use Rattle.dlt.specs.TypeInfoWord as word
use Rattle.dlt.specs.TypeInfoWord.{type_length_of, float_width_of, kind_by, coding_of_lem, type_info_of_lem}
use Rattle.dlt.specs.declared.FixedPointValue.{FixedPointValue}
use Rattle.dlt.specs.declared.Value.{Value}
use Rattle.dlt.specs.declared.Argument.{Argument}
use Rattle.values.specs.Value.{unsigned_of, uint, signed_of, sint, float_of, fint, value, offset_of, offset, fixed_point_of}
use Rattle.names.specs.Names.{name, maybe_name, texts, name_and_unit_of, maybe_names}
use Rattle.arguments.specs.Argument.{decoded, type_info_of, plain, scaled, boolean, content, sized, kinded, argument}
use Rattle.std.specs.Prelude.{Option, Some, None}
use Rattle.dlt.specs.declared.FixedPoint.{FixedPoint}

abbrev pub ended : ℕ → ℕ → Ended → Text
ended at n why = record { place = range at n; ended = why }

-- what an example names of an answer
pub data Sum : Type 0 where
  valued : Value → ℕ → Sum
  named : Option Text → Option Text → Value → ℕ → Sum
  pointed : ℕ → FixedPointValue → Value → ℕ → Sum
  lacks refused : ℕ → Sum
  other : Sum

abbrev pub shown : Option Text → Option FixedPoint → Argument → ℕ → Sum
shown None None a b = valued a.value b
shown None (Some p) a b = pointed p.pattern p.offset a.value b
shown (Some n) f a b = named (Some n) a.unit a.value b

abbrev pub sum : Ans Argument → Sum
sum (done a b) = shown a.name a.fixed_point a b
sum (need n) = lacks n
sum (hickup r) = refused r
sum broken = other

-- the bool of P12 and its need; an array; 128 bits, short and whole in both byte orders, and signed; a NaN's pattern; a fixed point whose
-- quantization is one; a string with a name, whose value stops before the byte that no UTF-8 has; raw bytes; name and unit, both empty, of size 0
pub vectors :
    (sum (argument false (0x11 ∷ 0 ∷ 0 ∷ 0 ∷ 1 ∷ []) 0) ≡ valued (Value.Bool 1) 5)
    × (sum (argument false [] 0) ≡ lacks 4)
    × (sum (argument false (0x11 ∷ 1 ∷ 0 ∷ 0 ∷ []) 0) ≡ refused 2)
    × (sum (argument false (0x45 ∷ 0 ∷ 0 ∷ 0 ∷ 1 ∷ 2 ∷ 3 ∷ []) 0) ≡ lacks 13)
    × (sum (argument false (0x45 ∷ 0 ∷ 0 ∷ 0 ∷ 1 ∷ 0 ∷ 0 ∷ 0 ∷ 0 ∷ 0 ∷ 0 ∷ 0 ∷ 2 ∷ 0 ∷ 0 ∷ 0 ∷ 0 ∷ 0 ∷ 0 ∷ 0 ∷ []) 0) ≡ valued (Value.U128 2 1) 20)
    × (sum (argument true (0 ∷ 0 ∷ 0 ∷ 0x45 ∷ 0 ∷ 0 ∷ 0 ∷ 0 ∷ 0 ∷ 0 ∷ 0 ∷ 1 ∷ 0 ∷ 0 ∷ 0 ∷ 0 ∷ 0 ∷ 0 ∷ 0 ∷ 2 ∷ []) 0) ≡ valued (Value.U128 1 2) 20)
    × (sum (argument false (0x21 ∷ 0 ∷ 0 ∷ 0 ∷ 0x80 ∷ []) 0) ≡ valued (Value.I8 (negsuc 127)) 5)
    × (sum (argument false (0x83 ∷ 0 ∷ 0 ∷ 0 ∷ 1 ∷ 0 ∷ 0x80 ∷ 0xFF ∷ []) 0) ≡ valued (Value.F32NotANumber 0xFF800001) 8)
    × (sum (argument false (0x23 ∷ 0x10 ∷ 0 ∷ 0 ∷ 0 ∷ 0 ∷ 0x80 ∷ 0x3F ∷ 0xFB ∷ 0xFF ∷ 0xFF ∷ 0xFF ∷ 1 ∷ 0 ∷ 0 ∷ 0 ∷ []) 0) ≡ pointed 0x3F800000 (FixedPointValue.I32 (negsuc 4)) (Value.I32 (pos 1)) 16)
    × (sum (argument true (0 ∷ 0 ∷ 0x0A ∷ 0 ∷ 0 ∷ 3 ∷ 0 ∷ 2 ∷ 0x78 ∷ 0 ∷ 0x61 ∷ 0xFF ∷ 0 ∷ []) 0) ≡ named (Some (ended 8 1 Ended.Zero)) None (Value.StringVal (ended 10 1 Ended.Invalid)) 13)
    × (sum (argument false (0 ∷ 4 ∷ 0 ∷ 0 ∷ 2 ∷ 0 ∷ 9 ∷ 8 ∷ []) 0) ≡ valued (Value.Raw (range 6 2)) 8)
    × (sum (argument false (0x42 ∷ 8 ∷ 0 ∷ 0 ∷ 0 ∷ 0 ∷ 0 ∷ 0 ∷ 0x34 ∷ 0x12 ∷ []) 0) ≡ named (Some (ended 8 0 Ended.Size)) (Some (ended 8 0 Ended.Size)) (Value.U16 4660) 10)
unfolding argument type_info_of decoded kinded boolean plain scaled content sized name maybe_name texts name_and_unit_of maybe_names type_info_of_lem kind_by coding_of_lem word.signed_of word.unsigned_of word.float_of type_length_of float_width_of value uint unsigned_of sint signed_of fint float_of fixed_point_of offset offset_of nan_bits text ended_text text_of ended_of valid_up_to_of up_to sequence among formed bytes numeric number number_of ret here choose asking having fixed ◌>>=◌
vectors = (refl, refl, refl, refl, refl, refl, refl, refl, refl, refl, refl, refl)
