-- The text that is read of a field's bytes is their identifier, and ended as that one ends; bytes have one, and no more.
-- Assumes nothing.
use Prim.Native.Nat.{ℕ, zero, suc, ◌+◌, ◌-◌, ◌≤◌, ◌<◌, min}
use native.Mathlib.Omega.{arith}
use native.Mathlib.Nat.{zero-add}
use mathlib.Core.Path.{◌≡◌, refl, sym, ap, ◌∙◌, subst}
use mathlib.Core.Bool.{Bool, true, false}
use mathlib.Core.List.{List, [], ◌∷◌}
use lib.ListN.{length, get_or, take, drop, length-take, length-drop, drop_of_length-le, get_or-eq_default}
use lib.Seq.{drop-cons, get_or-take, get_or-drop, take-take, take_all}
use lib.Dec.{eqb, leb}
use borrow.Author.Tests.{eq-eqb, leb-true, leb-false}
use Rattle.wire.specs.Parser.{pick}
use Rattle.strings.specs.Utf8.{valid_up_to_of, ValidUtf8}
use Rattle.strings.specs.Text.{before0, text_of, ended_of}
use Rattle.strings.proofs.Longest.{prefix_within, prefix_valid, prefix_longest}
use Rattle.agreement.specs.Identifier.{before_zero_of, IdentifierOf, end_in}
use Rattle.agreement.proofs.Moved.{Same, valid_moved}

-- ---- the part before the first zero byte
before_front : (b : List ℕ) → before_zero_of b ≡ take (length (before_zero_of b)) b
before_front [] = refl
before_front (b ∷ bs) = by (eqb b 0) (before_front bs)
  where
    by : (t : Bool) → before_zero_of bs ≡ take (length (before_zero_of bs)) bs → pick t [] (b ∷ before_zero_of bs) ≡ take (length (pick t [] (b ∷ before_zero_of bs))) (b ∷ bs)
    by true e = refl
    by false e = ap (λ (r : List ℕ). b ∷ r) e

-- it has as many bytes as the text that is read, before its own zero byte
before_length : (n : ℕ) (s : List ℕ) (at : ℕ) → before0 n s at ≡ length (before_zero_of (take n (drop at s)))
before_length zero s at = refl
before_length (suc n) s at = by (leb (suc at) (length s)) refl (before_length n s (suc at))
  where
    cut : (t : Bool) (b : ℕ) (bs : List ℕ) → pick t 0 (suc (length bs)) ≡ length (pick t [] (b ∷ bs))
    cut true b bs = refl
    cut false b bs = refl

    by : (t : Bool) → leb (suc at) (length s) ≡ t → before0 n s (suc at) ≡ length (before_zero_of (take n (drop (suc at) s)))
        → before0 (suc n) s at ≡ length (before_zero_of (take (suc n) (drop at s)))
    by true q e =
        let l : at < length s = leb-true _ _ q in
        let whole : drop at s ≡ get_or s at 0 ∷ drop (suc at) s = drop-cons s at 0 l in
        ap (λ (k : ℕ). pick (eqb (get_or s at 0) 0) 0 (suc k)) e
        ∙ cut (eqb (get_or s at 0) 0) (get_or s at 0) (before_zero_of (take n (drop (suc at) s)))
        ∙ ap (λ (r : List ℕ). length (before_zero_of (take (suc n) r))) (sym whole)
    by false q e =
        let below : length s < suc at = leb-false _ _ q in
        let l : length s ≤ at = omega arith in
        let none : drop at s ≡ [] = drop_of_length-le s l in
        let z : get_or s at 0 ≡ 0 = get_or-eq_default s 0 l in
        ap (λ (b : Bool). pick b 0 (suc (before0 n s (suc at)))) (eq-eqb _ _ z)
        ∙ ap (λ (r : List ℕ). length (before_zero_of (take (suc n) r))) (sym none)

-- ---- the text of n bytes that is read is the identifier of these bytes
module _ (n : ℕ) (s : List ℕ) (at : ℕ) where
  abbrev field : List ℕ
  field = take n (drop at s)

  abbrev size : ℕ
  size = length (before_zero_of field)

  abbrev kept : ℕ
  kept = (text_of n s at).len

  kept_is : kept ≡ valid_up_to_of size s at
  unfolding text_of
  kept_is = ap (λ (k : ℕ). valid_up_to_of k s at) (before_length n s at)

  within : (kept ≤ size) × ((size ≤ n) × (size ≤ length s - at))
  within =
      let a : size ≡ min size (length field) = ap length (before_front field) ∙ length-take size field in
      let b : length field ≡ min n (length s - at) = length-take n (drop at s) ∙ ap (min n) (length-drop at s) in
      (omega (arith, kept_is, prefix_within size s at), (omega arith, omega arith))

  -- the part before the first zero byte stands in s
  part : before_zero_of field ≡ take size (drop at s)
  part = before_front field ∙ take-take size n (drop at s) within.1.0

  part_same : (k : ℕ) → k ≤ size → Same (before_zero_of field) 0 s at k
  part_same k h i l =
      ap (λ (r : List ℕ). get_or r (0 + i) 0) part
      ∙ ap (λ (j : ℕ). get_or (take size (drop at s)) j 0) (zero-add i)
      ∙ get_or-take size (drop at s) i 0 (omega arith)
      ∙ get_or-drop at s i 0

  id_length_lem : length (take kept (drop at s)) ≡ kept
  id_length_lem = omega (arith, within, length-take kept (drop at s), length-drop at s)

  id_same : Same s at (take kept (drop at s)) 0 kept
  id_same i l =
      sym (get_or-drop at s i 0) ∙ sym (get_or-take kept (drop at s) i 0 l)
      ∙ sym (ap (λ (j : ℕ). get_or (take kept (drop at s)) j 0) (zero-add i))

  pub text_identifier : IdentifierOf field (take kept (drop at s))
  text_identifier =
      let w = within in
      record {
        front = sym (ap (λ (k : ℕ). take k (before_zero_of field)) id_length_lem ∙ ap (take kept) part ∙ take-take kept size (drop at s) w.0);
        valid =
            rw id_length_lem
            (valid_moved s (take kept (drop at s)) 0 id_same (subst (ValidUtf8 s at) (sym kept_is) (prefix_valid size s at)));
        longest = λ k h v.
            let b : k ≤ size = omega arith in
            let l : k ≤ valid_up_to_of size s at = prefix_longest size s b (valid_moved (before_zero_of field) s at (part_same k b) v) in
            omega (arith, kept_is, id_length_lem);
      }

  -- it ended as the identifier ends
  pub text_ended : ended_of n s at ≡ end_in n field (take kept (drop at s))
  unfolding ended_of
  text_ended = rw (id_length_lem, before_length n s at)

  -- and it stands in the bytes
  pub text_inside : kept ≤ length s - at
  text_inside = omega (arith, within)

-- so every four bytes have an identifier
pub every_field : (field : List ℕ) → length field ≡ 4 → IdentifierOf field (take (text_of 4 field 0).len field)
every_field field four = subst (λ (r : List ℕ). IdentifierOf r (take (text_of 4 field 0).len field)) (take_all 4 field (omega arith)) (text_identifier 4 field 0)

-- ---- and no more than one
module _ (field id : List ℕ) (v : IdentifierOf field id) where
  id_within : length id ≤ length (before_zero_of field)
  id_within = omega (arith, ap length v.front, length-take (length id) (before_zero_of field))

  id_valid : ValidUtf8 (before_zero_of field) 0 (length id)
  id_valid =
      valid_moved id (before_zero_of field) 0
      (λ i l. ap (λ (r : List ℕ). get_or r (0 + i) 0) v.front ∙ get_or-take (length id) (before_zero_of field) (0 + i) 0 (omega arith))
      v.valid

  -- it stands in front of them
  pub id_front : take (length id) field ≡ id
  id_front =
      sym (v.front ∙ ap (take (length id)) (before_front field) ∙ take-take (length id) (length (before_zero_of field)) field id_within)

pub one_identifier : (field a b : List ℕ) → IdentifierOf field a → IdentifierOf field b → a ≡ b
one_identifier field a b v w =
    let l : length a ≤ length b = w.longest (length a) (id_within field a v) (id_valid field a v) in
    let m : length b ≤ length a = v.longest (length b) (id_within field b w) (id_valid field b w) in
    let e : length a ≡ length b = omega arith in
    v.front ∙ ap (λ (k : ℕ). take k (before_zero_of field)) e ∙ sym w.front
