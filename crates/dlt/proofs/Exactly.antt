-- Exactly the acceptable words are accepted, by a test that computes at every kind, length and fixed-point bit.
-- Assumes nothing.
use Prim.Native.Nat.{ℕ, ◌*◌, ◌/◌, ◌%◌, ◌<◌}
use native.Mathlib.Omega.{arith}
use native.Mathlib.Nat.{div-div-eq-div-mul}
use mathlib.Core.Path.{◌≡◌, refl, sym, ap, ◌∙◌}
use mathlib.Core.Bool.{Bool, true, false}
use Rattle.wire.specs.Answer.Ans.{hickup}
use Rattle.headertype.specs.Bits.{bit, flag}
use Rattle.dlt.specs.TypeInfoWord.{type_length_of, float_width_of, signed_of, unsigned_of, float_of, kind_by, kind_of, decoded_of, type_info_of_lem, decoded_ans}
use Rattle.dlt.specs.Accepted.{accepted, acceptable}
use Rattle.headertype.proofs.Every.{same, same_is, every_two}
use Rattle.dlt.proofs.Fitting.{fits}
use Rattle.std.specs.Prelude.{Result, Ok, Err, Option, Some, None}
use Rattle.dlt.specs.declared.NoTypeInfo.{NoTypeInfo}
use Rattle.dlt.specs.declared.TypeInfo.{TypeInfo}
use Rattle.dlt.specs.declared.TypeInfoKind.{TypeInfoKind}

-- ---- what decides: the number k of bits 4 to 10, the length l and the fixed-point bit f, tried at all 4,096
abbrev pub known : Option TypeInfoKind → Bool
known (Some k) = true
known None = false

abbrev right : Bool → ℕ → ℕ → Bool
right f k l = same (known (kind_by k l f)) (fits k l f)

by_kind : (f : Bool) (k l : ℕ) → k < 128 → l < 16 → known (kind_by k l f) ≡ fits k l f
unfolding kind_by signed_of unsigned_of float_of type_length_of float_width_of
by_kind true k l hk hl = same_is _ _ (every_two (right true) 128 16 refl k l hk hl)
by_kind false k l hk hl = same_is _ _ (every_two (right false) 128 16 refl k l hk hl)

-- a bit of a word's kind, from the kind's number
at2 : (q : ℕ) → q / 2 % 2 ≡ q % 128 / 2 % 2
at2 q = omega arith

at4 : (q : ℕ) → q / 4 % 2 ≡ q % 128 / 4 % 2
at4 q = omega arith

at8 : (q : ℕ) → q / 8 % 2 ≡ q % 128 / 8 % 2
at8 q = omega arith

at16 : (q : ℕ) → q / 16 % 2 ≡ q % 128 / 16 % 2
at16 q = omega arith

at32 : (q : ℕ) → q / 32 % 2 ≡ q % 128 / 32 % 2
at32 q = omega arith

at64 : (q : ℕ) → q / 64 % 2 ≡ q % 128 / 64 % 2
at64 q = omega arith

div_by : (w n : ℕ) → w / (16 * n) % 2 ≡ w / 16 / n % 2
div_by w n = ap (λ (q : ℕ). q % 2) (sym (div-div-eq-div-mul w 16 n))

module _ (w : ℕ) where
  pub bit4 : bit 16 w ≡ w / 16 % 128 % 2
  bit4 = omega arith

  pub bit5 : bit 32 w ≡ w / 16 % 128 / 2 % 2
  bit5 = div_by w 2 ∙ at2 (w / 16)

  pub bit6 : bit 64 w ≡ w / 16 % 128 / 4 % 2
  bit6 = div_by w 4 ∙ at4 (w / 16)

  pub bit7 : bit 128 w ≡ w / 16 % 128 / 8 % 2
  bit7 = div_by w 8 ∙ at8 (w / 16)

  pub bit8 : bit 256 w ≡ w / 16 % 128 / 16 % 2
  bit8 = div_by w 16 ∙ at16 (w / 16)

  pub bit9 : bit 512 w ≡ w / 16 % 128 / 32 % 2
  bit9 = div_by w 32 ∙ at32 (w / 16)

  pub bit10 : bit 1024 w ≡ w / 16 % 128 / 64 % 2
  bit10 = div_by w 64 ∙ at64 (w / 16)

word_fits : (w : ℕ) → acceptable w ≡ fits (w / 16 % 128) (w % 16) (flag 4096 w)
unfolding acceptable
word_fits w = rw (bit4 w, bit5 w, bit6 w, bit7 w, bit8 w, bit9 w, bit10 w)

pub decoded_known : (w : ℕ) (o : Option TypeInfoKind) → accepted (decoded_of w o) ≡ known o
decoded_known w (Some k) = refl
decoded_known w None = refl

-- a word is accepted where exactly one of bits 4, 5, 6, 7, 9 and 10 is set, bit 8 is clear and its length fits, and nowhere else
pub exactly : (w : ℕ) → accepted (type_info_of_lem w) ≡ acceptable w
unfolding type_info_of_lem
exactly w = decoded_known w (kind_of w) ∙ by_kind (flag 4096 w) (w / 16 % 128) (w % 16) (omega arith) (omega arith) ∙ sym (word_fits w)

-- any other word is document 01's Hickup 2
refused_of : (d : Result TypeInfo NoTypeInfo) (next : ℕ) → accepted d ≡ false → decoded_ans d next ≡ hickup 2
refused_of (Ok i) next e = let z : ◌≡◌ {A = ℕ} 0 1 = cc in absurd (omega arith)
refused_of (Err r) next e = refl

pub refused : (w next : ℕ) → acceptable w ≡ false → decoded_ans (type_info_of_lem w) next ≡ hickup 2
refused w next e = refused_of (type_info_of_lem w) next (exactly w ∙ e)
