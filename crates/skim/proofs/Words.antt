-- What follows a type info, told from the bits of its word, is what its kind says. Assumes nothing.
use Prim.Native.Nat.{ℕ, zero, suc, ◌<◌, ◌/◌, ◌%◌}
use mathlib.Core.Path.{◌≡◌, refl, ◌∙◌}
use mathlib.Core.Bool.{Bool, true, false}
use mathlib.Core.List.{List}
use native.Mathlib.Omega.{arith}
use lib.Dec.{eqb}
use borrow.Author.Tests.{ne_eqb}
use Rattle.wire.specs.Answer.{Ans, Parser}
use Rattle.wire.specs.Answer.Ans.{done, need, hickup, broken}
use Rattle.wire.specs.Parser.{pick, follow, refuse, choose, ◌>>=◌}
use Rattle.wire.specs.Number.{number}
use Rattle.headertype.specs.Bits.{flag, either}
use Rattle.dlt.specs.TypeInfoWord.{type_length_of, float_width_of, sized, float_sized, signed_of, unsigned_of, length_bytes, float_bytes, float_of, kind_by, kind_of, decoded_of, type_info_of_lem, decoded_ans}
use Rattle.dlt.specs.declared.TypeLength.{TypeLength}
use Rattle.dlt.specs.declared.FloatWidth.{FloatWidth}
use Rattle.dlt.specs.declared.TypeInfoKind.{TypeInfoKind}
use Rattle.arguments.specs.Argument.{type_info_of, decoded}
use Rattle.skim.specs.Skim.{skim_plain_of, skim_scaled_of, skim_bool_of, skim_string_of, skim_raw_of, skim_kind, skim_argument_of, bytes_of, skim_whole_of, skim_float_of, skim_fixed_of, skim_number_of, skim_bits, skim_word_of}
use Rattle.std.specs.Prelude.{Option, Some, None}

-- what follows, by the kind that a word has, if it has one
abbrev kindly : Bool → Bool → Option TypeInfoKind → Parser Unit
kindly big info (Some k) = skim_kind big info k
kindly big info None = refuse 2

-- a number over 5 is none of the lengths
over : (n k : ℕ) → k < 6 → eqb (suc (suc (suc (suc (suc (suc n)))))) k ≡ false
over n k h = ne_eqb (suc (suc (suc (suc (suc (suc n)))))) k (λ e. omega (arith, h, e))

-- ---- a kind with a width, by the number of its length
module _ (big info : Bool) (s : List ℕ) (at : ℕ) where
  whole_by : (k : TypeLength → TypeInfoKind) → ((w : TypeLength) → skim_kind big info (k w) s at ≡ skim_plain_of info (length_bytes w) big s at)
      → (n : ℕ) → kindly big info (sized k (type_length_of n)) s at ≡ skim_whole_of info (bytes_of n) big s at
  unfolding type_length_of bytes_of skim_whole_of choose refuse
  whole_by k h zero = refl
  whole_by k h (suc zero) = h TypeLength.BitLength8
  whole_by k h (suc (suc zero)) = h TypeLength.BitLength16
  whole_by k h (suc (suc (suc zero))) = h TypeLength.BitLength32
  whole_by k h (suc (suc (suc (suc zero)))) = h TypeLength.BitLength64
  whole_by k h (suc (suc (suc (suc (suc zero))))) = h TypeLength.BitLength128
  whole_by k h (suc (suc (suc (suc (suc (suc n)))))) = rw (over n 1 (omega arith), over n 2 (omega arith), over n 3 (omega arith), over n 4 (omega arith), over n 5 (omega arith))

  fixed_by : (k : FloatWidth → TypeInfoKind) → ((w : FloatWidth) → skim_kind big info (k w) s at ≡ skim_scaled_of info (float_bytes w) big s at)
      → (n : ℕ) → kindly big info (float_sized k (float_width_of n)) s at ≡ skim_fixed_of info (bytes_of n) big s at
  unfolding float_width_of bytes_of skim_fixed_of choose refuse
  fixed_by k h zero = refl
  fixed_by k h (suc zero) = refl
  fixed_by k h (suc (suc zero)) = refl
  fixed_by k h (suc (suc (suc zero))) = h FloatWidth.Width32
  fixed_by k h (suc (suc (suc (suc zero)))) = h FloatWidth.Width64
  fixed_by k h (suc (suc (suc (suc (suc zero))))) = refl
  fixed_by k h (suc (suc (suc (suc (suc (suc n)))))) = rw (over n 1 (omega arith), over n 2 (omega arith), over n 3 (omega arith), over n 4 (omega arith), over n 5 (omega arith))

  float_by : ((w : FloatWidth) → skim_kind big info (TypeInfoKind.Float w) s at ≡ skim_plain_of info (float_bytes w) big s at)
      → (n : ℕ) → kindly big info (float_sized TypeInfoKind.Float (float_width_of n)) s at ≡ skim_float_of info (bytes_of n) big s at
  unfolding float_width_of bytes_of skim_float_of choose refuse
  float_by h zero = refl
  float_by h (suc zero) = refl
  float_by h (suc (suc zero)) = refl
  float_by h (suc (suc (suc zero))) = h FloatWidth.Width32
  float_by h (suc (suc (suc (suc zero)))) = h FloatWidth.Width64
  float_by h (suc (suc (suc (suc (suc zero))))) = refl
  float_by h (suc (suc (suc (suc (suc (suc n)))))) = rw (over n 1 (omega arith), over n 2 (omega arith), over n 3 (omega arith), over n 4 (omega arith), over n 5 (omega arith))

  -- ---- the kinds
  signed_by : (n : ℕ) (fixed : Bool) → kindly big info (signed_of n fixed) s at ≡ skim_number_of info fixed (bytes_of n) big s at
  unfolding signed_of skim_number_of choose skim_kind
  signed_by n true = fixed_by TypeInfoKind.SignedFixedPoint (λ w. refl) n
  signed_by n false = whole_by TypeInfoKind.Signed (λ w. refl) n

  unsigned_by : (n : ℕ) (fixed : Bool) → kindly big info (unsigned_of n fixed) s at ≡ skim_number_of info fixed (bytes_of n) big s at
  unfolding unsigned_of skim_number_of choose skim_kind
  unsigned_by n true = fixed_by TypeInfoKind.UnsignedFixedPoint (λ w. refl) n
  unsigned_by n false = whole_by TypeInfoKind.Unsigned (λ w. refl) n

  real_by : (n : ℕ) → kindly big info (float_of n) s at ≡ skim_float_of info (bytes_of n) big s at
  unfolding float_of skim_kind
  real_by n = float_by (λ w. refl) n

  -- the tests of the kind's bits, by their outcomes
  tests : (n : ℕ) (fixed a b c d e f : Bool)
      → kindly big info (pick a (Some TypeInfoKind.Bool) (pick b (signed_of n fixed) (pick c (unsigned_of n fixed) (pick d (float_of n) (pick e (Some TypeInfoKind.StringType) (pick f (Some TypeInfoKind.Raw) None)))))) s at
      ≡ choose a (skim_bool_of info big) (choose (either b c) (skim_number_of info fixed (bytes_of n) big) (choose d (skim_float_of info (bytes_of n) big) (choose e (skim_string_of info big) (choose f (skim_raw_of info big) (refuse 2))))) s at
  unfolding choose skim_kind
  tests n fixed true b c d e f = refl
  tests n fixed false true c d e f = signed_by n fixed
  tests n fixed false false true d e f = unsigned_by n fixed
  tests n fixed false false false true e f = real_by n
  tests n fixed false false false false true f = refl
  tests n fixed false false false false false true = refl
  tests n fixed false false false false false false = refl

  bits_by : (bits n : ℕ) (fixed : Bool) → kindly big info (kind_by bits n fixed) s at ≡ skim_bits big info fixed (bytes_of n) bits s at
  unfolding kind_by skim_bits
  bits_by bits n fixed = tests n fixed (eqb bits 1) (eqb bits 2) (eqb bits 4) (eqb bits 8) (eqb bits 32) (eqb bits 64)

-- ---- the word
word_by : (big : Bool) (word : ℕ) (s : List ℕ) (at : ℕ) → kindly big (flag 2048 word) (kind_of word) s at ≡ skim_word_of big word s at
unfolding skim_word_of
word_by big word s at = bits_by big (flag 2048 word) s at (word / 16 % 128) (word % 16) (flag 4096 word)

-- a type info's kind, and what follows it
goes_on : (big : Bool) (word : ℕ) (k : Option TypeInfoKind) (s : List ℕ) (at : ℕ)
    → follow (decoded_ans (decoded_of word k) at) (λ i. skim_kind big i.has_variable_info i.kind) s ≡ kindly big (flag 2048 word) k s at
unfolding refuse
goes_on big word (Some k) s at = refl
goes_on big word None s at = refl

after : (big : Bool) (x : Ans ℕ) (s : List ℕ)
    → follow (follow x (λ w. decoded (type_info_of_lem w)) s) (λ i. skim_kind big i.has_variable_info i.kind) s ≡ follow x (λ w. skim_word_of big w) s
unfolding decoded type_info_of_lem
after big (done w b) s = goes_on big w (kind_of w) s b ∙ word_by big w s b
after big (need n) s = refl
after big (hickup r) s = refl
after big broken s = refl

-- THE THEOREM: an argument passed is its type info word, and what follows by the word's bits
pub word_same : (big : Bool) (s : List ℕ) (at : ℕ) → skim_argument_of big s at ≡ (number big 4 >>= (λ w. skim_word_of big w)) s at
unfolding skim_argument_of type_info_of ◌>>=◌
word_same big s at = after big (number big 4 s at) s
