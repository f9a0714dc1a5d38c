-- Two different fields of four bytes may give one identifier: just where one of them has a byte other than zero behind it.
-- Assumes nothing.
use Prim.Native.Nat.{ℕ, zero, suc, ◌+◌, ◌-◌, ◌≤◌}
use native.Mathlib.Omega.{arith}
use mathlib.Core.Logic.{◌↔◌}
use mathlib.Core.Path.{◌≡◌, refl, sym, ap, ap₂, ◌∙◌}
use mathlib.Core.Bool.{Bool, true, false}
use mathlib.Core.List.{List, [], ◌∷◌, ◌++◌}
use lib.ListN.{length, get_or, take, drop, replicate, length-take, length-drop, length-append, length-replicate, take-append-drop}
use lib.Seq.{take-length, drop-append_seam}
use lib.Dec.{eqb}
use borrow.Author.Tests.{eqb-true}
use Rattle.wire.specs.Parser.{pick}
use Rattle.headertype.specs.Bits.{either}
use Rattle.strings.specs.Utf8.{sequence, among, formed, up_to, valid_up_to_of, ValidUtf8}
use Rattle.strings.specs.Utf8.ValidUtf8.{empty, more}
use Rattle.strings.proofs.Longest.{prefix_longest}
use Rattle.protocol.specs.Fields.{Field, width, offset, field_bytes}
use Rattle.agreement.specs.Identifier.{before_zero_of, IdentifierOf, padded, nonzero, has_more, SharesPadded}
use Rattle.agreement.proofs.Text.{id_front}

-- a field of width four that stands in the bytes has four bytes
pub field_four : (f : Field) (htyp : ℕ) (s : List ℕ) (at : ℕ) → width f ≡ 4 → at + offset htyp f + 4 ≤ length s → length (field_bytes f htyp s at) ≡ 4
field_four f htyp s at w h = omega (arith, length-take (width f) (drop (at + offset htyp f) s), length-drop (at + offset htyp f) s)

-- ---- zero bytes behind an identifier
no_part : (m : ℕ) → before_zero_of (replicate m 0) ≡ []
no_part zero = refl
no_part (suc m) = refl

zeros_bare : (m : ℕ) → nonzero (replicate m 0) ≡ false
zeros_bare zero = refl
zeros_bare (suc m) = zeros_bare m

bare_zeros : (b : List ℕ) → nonzero b ≡ false → b ≡ replicate (length b) 0
bare_zeros [] e = refl
bare_zeros (b ∷ bs) e = by (eqb b 0) refl (bare_zeros bs) e
  where
    by : (t : Bool) → eqb b 0 ≡ t → (nonzero bs ≡ false → bs ≡ replicate (length bs) 0) → pick t (nonzero bs) true ≡ false → b ∷ bs ≡ 0 ∷ replicate (length bs) 0
    by true q f z = ap₂ (λ (x : ℕ) (xs : List ℕ). x ∷ xs) (eqb-true b 0 q) (f z)
    by false q f z = let y : ◌≡◌ {A = ℕ} 0 1 = cc in absurd (omega arith)

-- they end the part before the first zero byte
before_again : (b : List ℕ) (k m : ℕ) → before_zero_of (take k (before_zero_of b) ++ replicate m 0) ≡ take k (before_zero_of b)
before_again b zero m = no_part m
before_again [] (suc k) m = no_part m
before_again (b ∷ bs) (suc k) m = by (eqb b 0) refl (before_again bs k m)
  where
    by : (t : Bool) → eqb b 0 ≡ t → before_zero_of (take k (before_zero_of bs) ++ replicate m 0) ≡ take k (before_zero_of bs)
        → before_zero_of (take (suc k) (pick t [] (b ∷ before_zero_of bs)) ++ replicate m 0) ≡ take (suc k) (pick t [] (b ∷ before_zero_of bs))
    by true q e = no_part m
    by false q e = rw q (ap (λ (r : List ℕ). b ∷ r) e)

pub padded_same : (field id : List ℕ) → IdentifierOf field id → IdentifierOf (padded id) id
padded_same field id v =
    let e : before_zero_of (padded id) ≡ id
    = ap (λ (r : List ℕ). before_zero_of (r ++ replicate (4 - length id) 0)) v.front ∙ before_again field (length id) (4 - length id) ∙ sym v.front in
    record {
      front = sym (ap (take (length id)) e ∙ take-length id);
      valid = v.valid;
      longest = λ k h u. omega (arith, ap length e);
    }

padded_bare : (id : List ℕ) → has_more (padded id) id ≡ false
padded_bare id = ap nonzero (drop-append_seam id (replicate (4 - length id) 0)) ∙ zeros_bare (4 - length id)

no_truth : {X : Type 0} → true ≡ false → X
no_truth e = let z : ◌≡◌ {A = ℕ} 0 1 = cc in absurd (omega arith)

-- ---- a field of four bytes and its identifier
module _ (field id : List ℕ) (four : length field ≡ 4) (v : IdentifierOf field id) where
  padded_four : length (padded id) ≡ 4
  padded_four =
      let l : length id ≤ 4 = omega (arith, ap length (id_front field id v), length-take (length id) field) in
      omega (arith, length-append id (replicate (4 - length id) 0), length-replicate {A = ℕ} (4 - length id) 0)

  -- no byte but zero stands behind it just where the field is the identifier and zero bytes
  pub bare_exactly : (has_more field id ≡ false) ↔ (field ≡ padded id)
  bare_exactly = (
    (λ e.
        let n : length (drop (length id) field) ≡ 4 - length id = length-drop (length id) field ∙ ap (λ (k : ℕ). k - length id) four in
        sym (take-append-drop (length id) field)
        ∙ ap₂ (λ (a b : List ℕ). a ++ b) (id_front field id v) (bare_zeros (drop (length id) field) e ∙ ap (λ (k : ℕ). replicate k 0) n)),
    (λ e. ap (λ (f : List ℕ). has_more f id) e ∙ padded_bare id),
  )

  not_bare : (t : Bool) → has_more field id ≡ t → (field ≡ padded id → ⊥) → has_more field id ≡ true
  not_bare true e d = e
  not_bare false e d = absurd (d (bare_exactly.0 e))

  -- one stands there just where the identifier and zero bytes are another field, which gives the same identifier
  pub shared_exactly : (has_more field id ≡ true) ↔ SharesPadded field id
  shared_exactly = (
    (λ e. record { differs = λ p. no_truth (sym e ∙ bare_exactly.1 p); four = padded_four; same = padded_same field id v }),
    (λ o. not_bare (has_more field id) refl o.differs),
  )

-- ---- two fields of four bytes and one identifier
module _ (f g id : List ℕ) (f-four : length f ≡ 4) (g-four : length g ≡ 4) (v : IdentifierOf f id) (w : IdentifierOf g id) where
  -- if both have zero bytes only behind it, they are the same field
  pub told_apart : has_more f id ≡ false → has_more g id ≡ false → f ≡ g
  told_apart a b = (bare_exactly f id f-four v).0 a ∙ sym ((bare_exactly g id g-four w).0 b)

  -- so if they differ, one of them has another byte behind it
  pub shared_only : (f ≡ g → ⊥) → either (has_more f id) (has_more g id) ≡ true
  shared_only d = by (has_more f id) (has_more g id) refl refl
    where
      by : (a b : Bool) → has_more f id ≡ a → has_more g id ≡ b → either a b ≡ true
      by true b p q = refl
      by false true p q = refl
      by false false p q = absurd (d (told_apart p q))

-- ---- 41 00 42 00, 41 00 43 00 and 41 FF 00 00 are three such fields: all give 41
abbrev first_field : List ℕ
first_field = 0x41 ∷ 0x00 ∷ 0x42 ∷ 0x00 ∷ []

abbrev second_field : List ℕ
second_field = 0x41 ∷ 0x00 ∷ 0x43 ∷ 0x00 ∷ []

abbrev third_field : List ℕ
third_field = 0x41 ∷ 0xFF ∷ 0x00 ∷ 0x00 ∷ []

letter_a : ValidUtf8 (0x41 ∷ []) 0 1
unfolding sequence among formed
letter_a = more 1 (omega arith) refl empty

pub first_example : IdentifierOf first_field (0x41 ∷ []) × (has_more first_field (0x41 ∷ []) ≡ true)
first_example = (record { front = refl; valid = letter_a; longest = λ k h v. omega arith }, refl)

pub second_example : IdentifierOf second_field (0x41 ∷ []) × (has_more second_field (0x41 ∷ []) ≡ true)
second_example = (record { front = refl; valid = letter_a; longest = λ k h v. omega arith }, refl)

pub third_example : IdentifierOf third_field (0x41 ∷ []) × (has_more third_field (0x41 ∷ []) ≡ true)
unfolding valid_up_to_of up_to sequence among formed
third_example = (record { front = refl; valid = letter_a; longest = λ k h v. prefix_longest 2 (0x41 ∷ 0xFF ∷ []) h v }, refl)

pub examples_differ : first_field ≡ second_field → ⊥
examples_differ e = let z : ◌≡◌ {A = ℕ} 0x42 0x43 = ap (λ (r : List ℕ). get_or r 2 0) e in omega arith
