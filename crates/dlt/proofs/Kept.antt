-- What a type info keeps of its word, and that the rest of the word says nothing.
-- Assumes nothing.
use Prim.Native.Nat.{ℕ, ◌+◌, ◌*◌, ◌/◌, ◌%◌, ◌<◌}
use native.Mathlib.Omega.{arith}
use mathlib.Core.Path.{◌≡◌, refl, sym, ◌∙◌}
use mathlib.Core.Bool.{Bool, true, false}
use lib.Dec.{eqb}
use borrow.Author.Tests.{eqb-true}
use Rattle.wire.specs.Parser.{pick}
use Rattle.headertype.specs.Bits.{bit, flag, either, one_if_of}
use Rattle.headertype.proofs.Every.{numbers, every_two}
use Rattle.dlt.specs.TypeInfoWord.{type_length_of, float_width_of, signed_of, unsigned_of, float_of, kind_by, kind_of, coding_of_lem, decoded_of, type_info_of_lem}
use Rattle.dlt.specs.Accepted.{acceptable}
use Rattle.dlt.specs.Kept.{kind_word, coding_number_of, decoded_word, integer, kept_length, kept_fixed, packed, kept_bits}
use Rattle.dlt.proofs.Exactly.{known, decoded_known, exactly}
use Rattle.std.specs.Prelude.{Option, Some, None}
use Rattle.dlt.specs.declared.TypeInfoKind.{TypeInfoKind}

-- ---- kept: the word can be read back from the answer
abbrev kind_or : Option TypeInfoKind → ℕ
kind_or (Some k) = kind_word k
kind_or None = 0

abbrev kind_kept : Bool → ℕ → ℕ → Bool
kind_kept f k l = pick (known (kind_by k l f)) (eqb (kind_or (kind_by k l f)) (k * 16 + kept_length k l + kept_fixed k (one_if_of f) * 4096)) true

by_kind : (f : Bool) (k l : ℕ) → k < 128 → l < 16 → kind_kept f k l ≡ true
unfolding kind_by signed_of unsigned_of float_of type_length_of float_width_of
by_kind true k l hk hl = every_two (kind_kept true) 128 16 refl k l hk hl
by_kind false k l hk hl = every_two (kind_kept false) 128 16 refl k l hk hl

pub flag_bit : (q : ℕ) → one_if_of (eqb (q % 2) 1) ≡ q % 2
flag_bit q = numbers (λ n. one_if_of (eqb n 1)) (λ n. n) 2 refl (q % 2) (omega arith)

pub coding_kept : (n : ℕ) → n < 8 → coding_number_of (coding_of_lem n) ≡ n
unfolding coding_of_lem
coding_kept n h = numbers (λ n. coding_number_of (coding_of_lem n)) (λ n. n) 8 refl n h

module _ (w : ℕ) where
  word_of : (o : Option TypeInfoKind) → known o ≡ true
      → decoded_word (decoded_of w o) ≡ kind_or o + one_if_of (flag 2048 w) * 2048 + one_if_of (flag 8192 w) * 8192 + coding_number_of (coding_of_lem (w / 32768 % 8)) * 32768
  word_of (Some k) e = refl
  word_of None e = let z : ◌≡◌ {A = ℕ} 0 1 = cc in absurd (omega arith)

  kind_of_word : (t : Bool) (m n : ℕ) → t ≡ true → pick t (eqb m n) true ≡ true → m ≡ n
  kind_of_word true m n e q = eqb-true m n q
  kind_of_word false m n e q = let z : ◌≡◌ {A = ℕ} 0 1 = cc in absurd (omega arith)

  pub kept : acceptable w ≡ true → decoded_word (type_info_of_lem w) ≡ kept_bits w
  unfolding type_info_of_lem kept_bits
  kept a =
      let here : known (kind_of w) ≡ true = sym (decoded_known w (kind_of w)) ∙ exactly w ∙ a in
      let kind : kind_or (kind_of w) ≡ w / 16 % 128 * 16 + kept_length (w / 16 % 128) (w % 16) + kept_fixed (w / 16 % 128) (one_if_of (flag 4096 w)) * 4096
      = kind_of_word _ _ _ here (by_kind (flag 4096 w) (w / 16 % 128) (w % 16) (omega arith) (omega arith)) in
      let coding : coding_number_of (coding_of_lem (w / 32768 % 8)) ≡ w / 32768 % 8 = coding_kept _ (omega arith) in
      word_of (kind_of w) here ∙ rw (kind, flag_bit (w / 4096), flag_bit (w / 2048), flag_bit (w / 8192), coding)

-- ---- dropped: a word and what is kept of it have one answer
pick_small : (t : Bool) (x n : ℕ) → x < n → pick t x 0 < n
pick_small true x n h = h
pick_small false x n h = omega arith

pick_flag : (t : Bool) (x : ℕ) → eqb (pick t x 0) 1 ≡ pick t (eqb x 1) false
pick_flag true x = refl
pick_flag false x = refl

-- the tests for the kinds by their bits, as bools
kind_drops : (b1 b2 b4 b8 : Bool) (l : ℕ) (f : Bool) (x y : Option TypeInfoKind)
    → pick b1 y (pick b2 (signed_of (pick (either (either b2 b4) b8) l 0) (pick (either b2 b4) f false))
    (pick b4 (unsigned_of (pick (either (either b2 b4) b8) l 0) (pick (either b2 b4) f false)) (pick b8 (float_of (pick (either (either b2 b4) b8) l 0)) x)))
    ≡ pick b1 y (pick b2 (signed_of l f) (pick b4 (unsigned_of l f) (pick b8 (float_of l) x)))
kind_drops true b2 b4 b8 l f x y = refl
kind_drops false true b4 b8 l f x y = refl
kind_drops false false true b8 l f x y = refl
kind_drops false false false true l f x y = refl
kind_drops false false false false l f x y = refl

kind_same : (k l : ℕ) (f : Bool) → kind_by k (kept_length k l) (pick (integer k) f false) ≡ kind_by k l f
unfolding kind_by
kind_same k l f = kind_drops (eqb k 1) (eqb k 2) (eqb k 4) (eqb k 8) l f _ _

decoded_same : (v w : ℕ) (o : Option TypeInfoKind) → v / 32768 % 8 ≡ w / 32768 % 8 → bit 2048 v ≡ bit 2048 w → bit 8192 v ≡ bit 8192 w → decoded_of v o ≡ decoded_of w o
decoded_same v w (Some k) c a b = rw (c, a, b)
decoded_same v w None c a b = refl

module _ (k l f v t c : ℕ) (hk : k < 128) (hl : l < 16) (hf : f < 2) (hv : v < 2) (ht : t < 2) (hc : c < 8) where
  bits_of : packed k l f v t c / 16 % 128 ≡ k
  bits_of = omega arith

  length_of_lem : packed k l f v t c % 16 ≡ l
  length_of_lem = omega arith

  fixed_of : packed k l f v t c / 4096 % 2 ≡ f
  fixed_of = omega arith

  variable_of : packed k l f v t c / 2048 % 2 ≡ v
  variable_of = omega arith

  trace_of : packed k l f v t c / 8192 % 2 ≡ t
  trace_of = omega arith

  coding_of_law : packed k l f v t c / 32768 % 8 ≡ c
  coding_of_law = omega arith

  unpacked : (w : ℕ) → c ≡ w / 32768 % 8 → v ≡ bit 2048 w → t ≡ bit 8192 w → kind_by k l (eqb f 1) ≡ kind_of w → type_info_of_lem (packed k l f v t c) ≡ type_info_of_lem w
  unfolding type_info_of_lem
  unpacked w ec ev et ek =
      rw (bits_of, length_of_lem, fixed_of, ek) (decoded_same _ w (kind_of w) (coding_of_law ∙ ec) (variable_of ∙ ev) (trace_of ∙ et))

pub dropped : (w : ℕ) → type_info_of_lem (kept_bits w) ≡ type_info_of_lem w
unfolding kept_bits
dropped w =
    let q = w / 16 % 128 in
    unpacked q (kept_length q (w % 16)) (kept_fixed q (bit 4096 w)) (bit 2048 w) (bit 8192 w) (w / 32768 % 8)
    (omega arith) (pick_small (either (integer q) (eqb q 8)) (w % 16) 16 (omega arith)) (pick_small (integer q) (bit 4096 w) 2 (omega arith)) (omega arith) (omega arith) (omega arith)
    w refl refl refl (rw pick_flag (kind_same q (w % 16) (flag 4096 w)))
