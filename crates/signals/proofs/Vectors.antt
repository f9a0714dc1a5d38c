-- Worked examples, on the rule. Each computes.
use Prim.Native.Nat.{ℕ}
use mathlib.Core.Path.{◌≡◌, refl}
use mathlib.Core.List.{List, [], ◌∷◌, map}
use mathlib.Core.Bool.{false}
use Rattle.wire.specs.Answer.{Ans}
use Rattle.wire.specs.Answer.Ans.{done, need, hickup, broken}
use Rattle.wire.specs.Parser.{ret, here, refuse, asking, having, fixed, ◌>>=◌}
use Rattle.wire.specs.Number.{number, number_of, numeric}
use Rattle.wire.specs.Run.{range, bytes}
use Rattle.wire.specs.declared.Ended.{Ended}
use Rattle.strings.specs.Utf8.{formed, among, sequence, up_to, valid_up_to_of}
use Rattle.dlt.specs.TypeInfoWord as word
use Rattle.dlt.specs.TypeInfoWord.{type_length_of, float_width_of, kind_by, coding_of_lem, type_info_of_lem}
use Rattle.dlt.specs.declared.Value.{Value}
use Rattle.dlt.specs.declared.Argument.{Argument}
use Rattle.values.specs.Value.{unsigned_of, uint, value}
use Rattle.arguments.specs.Argument.{decoded}
use Rattle.signals.specs.Signal.{utf8, fixed_width, content, in_data_of, whole, signal}
use Rattle.signals.specs.Signals.{listed}

-- what an example names of an answer
pub data Sum : Type 0 where
  valued : List Value → ℕ → Sum
  refused : ℕ → Sum
  other : Sum

abbrev pub sum : Ans (List Argument) → Sum
sum (done rest b) = valued (map (λ (a : Argument). a.value) rest) b
sum (need n) = other
sum (hickup r) = refused r
sum broken = other

-- an unsigned number of 16 bits with a byte left; a string that is no UTF-8, and one that keeps its zero byte; no words; a word that doesn't
-- decode, not reached and reached; a fixed-point kind without its width and with it
pub vectors :
    (sum (listed false (0x42 ∷ []) (0x34 ∷ 0x12 ∷ 0xFF ∷ []) 0) ≡ valued (Value.U16 4660 ∷ []) 2)
    × (sum (listed false (0x200 ∷ []) (2 ∷ 0 ∷ 0xC3 ∷ 0x28 ∷ []) 0) ≡ refused 6)
    × (sum (listed false (0x200 ∷ []) (2 ∷ 0 ∷ 0x41 ∷ 0 ∷ []) 0) ≡ valued (Value.StringVal (record { place = range 2 2; ended = Ended.Size }) ∷ []) 4)
    × (sum (listed false [] (1 ∷ []) 0) ≡ valued [] 0)
    × (sum (listed false (0x43 ∷ 0 ∷ []) (1 ∷ 2 ∷ 3 ∷ []) 0) ≡ refused 5)
    × (sum (listed false (0x43 ∷ 0 ∷ []) (1 ∷ 2 ∷ 3 ∷ 4 ∷ []) 0) ≡ refused 2)
    × (sum (listed false (0x1023 ∷ []) (1 ∷ 2 ∷ 3 ∷ []) 0) ≡ refused 5)
    × (sum (listed false (0x1023 ∷ []) (1 ∷ 2 ∷ 3 ∷ 4 ∷ 5 ∷ []) 0) ≡ refused 7)
unfolding listed signal whole in_data_of content utf8 fixed_width decoded type_info_of_lem kind_by coding_of_lem word.signed_of word.unsigned_of word.float_of type_length_of float_width_of value uint unsigned_of valid_up_to_of up_to sequence among formed bytes numeric number number_of ret here refuse asking having fixed ◌>>=◌
vectors = (refl, refl, refl, refl, refl, refl, refl, refl)
