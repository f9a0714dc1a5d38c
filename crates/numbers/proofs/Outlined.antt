-- The groups straight from the bytes, as the code puts them: the lemmas for `search`. Assumes nothing.
use Prim.Native.Nat.{ℕ, zero, suc, ◌+◌, ◌-◌, ◌*◌, ◌/◌, ◌%◌, ◌≤◌, ◌<◌}
use native.Mathlib.Omega.{arith}
use mathlib.Core.Path.{◌≡◌, refl, sym, ap, ap₂, ◌∙◌}
use mathlib.Core.Bool.{Bool, true, false}
use mathlib.Core.List.{List, [], ◌∷◌}
use lib.ListN.{length, get_or}
use lib.Dec.{leb, eqb}
use borrow.Author.Tests.{le-leb, lt-leb}
use Rattle.table.specs.Over.{over}
use Rattle.wire.specs.Parser.{pick}
use Rattle.wire.specs.Number.{number_of}
use Rattle.wire.specs.Run.{range}
use Rattle.wire.specs.declared.Ended.{Ended}
use Rattle.wire.specs.declared.Text.{Text}
use Rattle.wire.proofs.Step.{told}
use Rattle.strings.specs.Text.{letter, text_of, ended_text, identified}
use Rattle.strings.proofs.Strings.{letters_three, letters_four, letters_all, letters_end}
use Rattle.strings.proofs.Reasons.{ended_size, ended_zero}
use Rattle.headertype.specs.Bits.{flag}
use Rattle.headertype.specs.HeaderType.{all_headers}
use Rattle.headertype.specs.declared.Endianness.{Endianness}
use Rattle.messageinfo.proofs.Bytes.{type_kept, subtype_kept}
use Rattle.headers.specs.Standard.{endian_of, header_of_lem}
use Rattle.headers.specs.Extended.{extended_of_lem}
use Rattle.headers.proofs.Inverse.{same_value, no_need}
use Rattle.storage.specs.Storage.{stored_of}
use Rattle.payload.specs.declared.PayloadContent.{PayloadContent}
use Rattle.parse.specs.Message.{item_of}
use Rattle.outline.specs.There.{behind, id_if, number_if, standard_at, extended_place_of, extended_at, extended_if, stored_at}
use Rattle.outline.specs.declared.Outline.{Outline}
use Rattle.outline.proofs.There.{id_there}
use Rattle.numbers.specs.Layout.{one_if_of, order_number, text_numbers, num_numbers, storage_numbers, front_numbers, standard_numbers, extended_numbers, payload_numbers, ended_number_of, text_end_of, stored_end_of, application_end_of, context_end_of, lead_numbers}
use Rattle.numbers.specs.Outlined.{outlined_item, outlined_laid}
use Rattle.numbers.proofs.Rows.{ends_row, standard_row, lead_row, item_row, message_short}
use Rattle.std.specs.Prelude.{Option, Result, Ok, Err}
use Rattle.messageinfo.specs.declared.ExtendedHeader.{ExtendedHeader}
use Rattle.wire.specs.declared.Got.{Got}
use Rattle.wire.specs.declared.Need.{Need}
use Rattle.wire.specs.Answers.{need_ans}

-- ---- fields that are there
module _ (s : List ℕ) (at : ℕ) where
  pub byte_there : get_or s at 0 ≡ number_of true 1 s at
  unfolding number_of
  byte_there =
      let e : at + 0 ≡ at = omega arith in
      rw e (omega arith)

  -- a to d are the bytes, as a call widened them
  module _ (a b c d : ℕ) (ea : a ≡ get_or s at 0) (eb : b ≡ get_or s (at + 1) 0) (ec : c ≡ get_or s (at + 2) 0) (ed : d ≡ get_or s (at + 3) 0) where
    pub word_big : (t : Bool) → t ≡ true → a * 16777216 + b * 65536 + c * 256 + d ≡ number_of t 4 s at
    unfolding number_of
    word_big t z =
        let e : at + 0 ≡ at = omega arith in
        rw (z, e) (omega (arith, ea, eb, ec, ed))

    pub word_little : (t : Bool) → t ≡ false → a + b * 256 + c * 65536 + d * 16777216 ≡ number_of t 4 s at
    unfolding number_of
    word_little t z =
        let e : at + 0 ≡ at = omega arith in
        rw (z, e) (omega (arith, ea, eb, ec, ed))

  pub id_read : (x : Result (Got Text) Need) (g : Got Text) → at + 4 ≤ length s → need_ans x ≡ identified s at → x ≡ Ok g → record { place = g.v.place; ended = g.v.ended } ≡ ended_text 4 s at
  id_read x g h e q = sym (same_value (sym (told need_ans e q) ∙ id_there s at h)).0

  pub id_missing : (x : Result (Got Text) Need) (n : Need) → at + 4 ≤ length s → need_ans x ≡ identified s at → x ≡ Err n → record { place = range at 0; ended = Ended.Size } ≡ ended_text 4 s at
  id_missing x n h e q = no_need (sym (told need_ans e q) ∙ id_there s at h)

-- ---- identifiers of four letters
module _ (b : ℕ) where
  pub letter_zero : b ≡ 0 → false ≡ letter b
  letter_zero h = rw (lt-leb 1 b (omega (arith, h)))

  pub letter_else : (b ≡ 0 → ⊥) → leb b 0x7F ≡ letter b
  letter_else h = rw (le-leb 1 b (omega (arith, h)))

-- a to d are what calls gave for the four bytes
module _ (s : List ℕ) (at : ℕ) (a b c : Bool) (ea : a ≡ letter (get_or s at 0)) (ta : a ≡ true) (eb : b ≡ letter (get_or s (at + 1) 0)) (tb : b ≡ true) (ec : c ≡ letter (get_or s (at + 2) 0)) (tc : c ≡ true) where
  pub four_letters_lem : (d : Bool) → d ≡ letter (get_or s (at + 3) 0) → d ≡ true → record { place = range at 4; ended = Ended.Size } ≡ ended_text 4 s at
  unfolding ended_text text_of
  four_letters_lem d ed td =
      let n : 4 ≡ (text_of 4 s at).len = letters_all s at 4 4 refl (letters_four s at a ea ta b eb tb c ec tc d ed td) in
      ap₂ (λ (k : ℕ) (w : Ended). record { place = range at k; ended = w }) n (ended_size 4 s at 4 n refl)

  pub three_letters : get_or s (at + 3) 0 ≡ 0 → record { place = range at 3; ended = Ended.Zero } ≡ ended_text 4 s at
  unfolding ended_text text_of
  three_letters z =
      let n : 3 ≡ (text_of 4 s at).len = letters_end s at 4 3 (λ e. omega (arith, e)) z (letters_three s at a ea ta b eb tb c ec tc) in
      ap₂ (λ (k : ℕ) (w : Ended). record { place = range at k; ended = w }) n (ended_zero 4 s at 3 n (λ e. omega (arith, e)) z)

pub behind_four : (t : Bool) (at : ℕ) → t ≡ true → at + 4 ≡ behind t at
behind_four t at e = rw e

pub behind_none : (t : Bool) (at : ℕ) → t ≡ false → at ≡ behind t at
behind_none t at e = rw e

pub behind_three : (t at p q r : ℕ) → p ≡ behind (flag 4 t) (at + 4) → q ≡ behind (flag 8 t) p → r ≡ behind (flag 16 t) q → r ≡ extended_place_of t at
behind_three t at p q r e f g = g ∙ ap (behind (flag 16 t)) (f ∙ ap (behind (flag 8 t)) e)

-- ---- bits as numbers
below_two : (b : ℕ) → b < 2 → one_if_of (eqb b 1) ≡ b
below_two zero h = refl
below_two (suc zero) h = refl
below_two (suc (suc b)) h = absurd (omega arith)

one_bit : (p x : ℕ) → one_if_of (flag p x) ≡ x / p % 2
one_bit p x = below_two (x / p % 2) (omega arith)

order_bit : (t : ℕ) → order_number (endian_of t) ≡ t / 2 % 2
unfolding endian_of
order_bit t = by (flag 2 t) ∙ one_bit 2 t
  where
    by : (b : Bool) → order_number (pick b Endianness.Big Endianness.Little) ≡ one_if_of b
    by true = refl
    by false = refl

-- ---- the groups: X is what the slice has behind the call that put them
module _ (T X : List ℕ) (k : ℕ) (s : List ℕ) (at : ℕ) (t : Bool) where
  pub text_there : (r : Text) → t ≡ true → r ≡ ended_text 4 s at → X ≡ over T k (1 ∷ r.place.start ∷ r.place.len ∷ []) → X ≡ over T k (text_numbers (id_if t s at))
  unfolding text_numbers
  text_there r z e h = h ∙ rw (z, e)

  pub text_none : t ≡ false → X ≡ over T k (0 ∷ 0 ∷ 0 ∷ []) → X ≡ over T k (text_numbers (id_if t s at))
  unfolding text_numbers
  text_none z h = h ∙ rw z

  pub num_there : (n : ℕ) → t ≡ true → n ≡ number_of true 4 s at → X ≡ over T k (1 ∷ n ∷ []) → X ≡ over T k (num_numbers (number_if t s at))
  unfolding num_numbers
  num_there n z e h = h ∙ rw (z, e)

  pub num_none : t ≡ false → X ≡ over T k (0 ∷ 0 ∷ []) → X ≡ over T k (num_numbers (number_if t s at))
  unfolding num_numbers
  num_none z h = h ∙ rw z

  pub extended_row_there : (i c : ℕ) (a b : Text) → t ≡ true → i < 256 → i ≡ number_of true 1 s at → c ≡ number_of true 1 s (at + 1) → a ≡ ended_text 4 s (at + 2) → b ≡ ended_text 4 s (at + 6)
      → X ≡ over T k (1 ∷ i / 1 % 2 ∷ c ∷ i / 2 % 8 ∷ i / 16 ∷ a.place.start ∷ a.place.len ∷ b.place.start ∷ b.place.len ∷ []) → X ≡ over T k (extended_numbers (extended_if t s at))
  unfolding extended_numbers extended_at extended_of_lem
  extended_row_there i c a b z byte e f g j h = h ∙ rw (z, ← e, one_bit 1 i, type_kept i byte, subtype_kept i byte, f, g, j)

  pub extended_row_none : t ≡ false → X ≡ over T k (0 ∷ 0 ∷ 0 ∷ 0 ∷ 0 ∷ 0 ∷ 0 ∷ 0 ∷ 0 ∷ []) → X ≡ over T k (extended_numbers (extended_if t s at))
  unfolding extended_numbers
  extended_row_none z h = h ∙ rw z

-- why they ended: x and y are what `ended_number` gave
module _ (s : List ℕ) (at : ℕ) (t : Bool) where
  pub end_there : (r : Text) (x : ℕ) → t ≡ true → r ≡ ended_text 4 s at → x ≡ ended_number_of r.ended → x ≡ text_end_of (id_if t s at)
  end_there r x z e h = h ∙ rw (z, e)

  pub end_none : t ≡ false → 0 ≡ text_end_of (id_if t s at)
  end_none z = rw z

  pub application_there : (r : Text) (x : ℕ) → t ≡ true → r ≡ ended_text 4 s (at + 2) → x ≡ ended_number_of r.ended → x ≡ application_end_of (extended_if t s at)
  unfolding extended_at extended_of_lem
  application_there r x z e h = h ∙ rw (z, e)

  pub application_none : t ≡ false → 0 ≡ application_end_of (extended_if t s at)
  application_none z = rw z

  pub context_there : (r : Text) (x : ℕ) → t ≡ true → r ≡ ended_text 4 s (at + 6) → x ≡ ended_number_of r.ended → x ≡ context_end_of (extended_if t s at)
  unfolding extended_at extended_of_lem
  context_there r x z e h = h ∙ rw (z, e)

  pub context_none : t ≡ false → 0 ≡ context_end_of (extended_if t s at)
  context_none z = rw z

pub stored_end_there : (s : List ℕ) (i : ℕ) (r : Text) (x : ℕ) → r ≡ ended_text 4 s (i + 12) → x ≡ ended_number_of r.ended → x ≡ stored_end_of (stored_at s i)
unfolding stored_at stored_of
stored_end_there s i r x e h = h ∙ rw e

pub ecu_end_there : (s : List ℕ) (at t n x : ℕ) → x ≡ text_end_of (id_if (flag 4 t) s (at + 4)) → x ≡ text_end_of (standard_at t n s at).ecu_id
unfolding standard_at header_of_lem
ecu_end_there s at t n x e = e

pub stored_row_there : (T X : List ℕ) (s : List ℕ) (i a b : ℕ) (r : Text) → a ≡ number_of false 4 s (i + 4) → b ≡ number_of false 4 s (i + 8) → r ≡ ended_text 4 s (i + 12)
    → X ≡ over T 2 (1 ∷ a ∷ b ∷ r.place.start ∷ r.place.len ∷ i ∷ []) → X ≡ over T 2 (storage_numbers (stored_at s i))
unfolding storage_numbers stored_at stored_of
stored_row_there T X s i a b r e f g h = h ∙ rw (e, f, g)

pub front_row_there : (T X : List ℕ) (s : List ℕ) (at t n c : ℕ) → c ≡ number_of true 1 s (at + 1) → X ≡ over T 8 (t / 32 ∷ t / 2 % 2 ∷ t / 1 % 2 ∷ c ∷ []) → X ≡ over T 8 (front_numbers (standard_at t n s at))
unfolding front_numbers standard_at header_of_lem
front_row_there T X s at t n c e h = h ∙ rw (order_bit t, one_bit 1 t, e)

pub standard_row_there : (T A B C D : List ℕ) (s : List ℕ) (at t n p q : ℕ) → 37 ≤ length T → p ≡ behind (flag 4 t) (at + 4) → q ≡ behind (flag 8 t) p
    → A ≡ over T 8 (front_numbers (standard_at t n s at)) → B ≡ over A 12 (text_numbers (id_if (flag 4 t) s (at + 4))) → C ≡ over B 15 (num_numbers (number_if (flag 8 t) s p))
    → D ≡ over C 17 (num_numbers (number_if (flag 16 t) s q)) → D ≡ over T 8 (standard_numbers (standard_at t n s at))
unfolding standard_at header_of_lem
standard_row_there T A B C D s at t n p q fits e f a b c d =
    standard_row T A B C D (standard_at t n s at) fits a b (c ∙ ap (λ (m : ℕ). over B 15 (num_numbers (number_if (flag 8 t) s m))) e)
    (d ∙ ap (λ (m : ℕ). over C 17 (num_numbers (number_if (flag 16 t) s m))) (f ∙ ap (behind (flag 8 t)) e))

-- what the calls of `put_lead_at` leave: m is what a call gave for the payload length
pub lead_row_there : (T A B C : List ℕ) (s : List ℕ) (i t n m : ℕ) → 37 ≤ length T → m ≡ n - all_headers t → A ≡ over T 0 (0 ∷ m ∷ [])
    → B ≡ over A 2 (storage_numbers (stored_at s i)) → C ≡ over B 8 (standard_numbers (standard_at t n s (i + 16))) → C ≡ over T 0 (lead_numbers (stored_at s i) (standard_at t n s (i + 16)))
unfolding standard_at header_of_lem
lead_row_there T A B C s i t n m fits e a b c = lead_row T A B C fits (stored_at s i) (standard_at t n s (i + 16)) (a ∙ ap (λ (m : ℕ). over T 0 (0 ∷ m ∷ [])) e) b c

-- ---- the whole: l is what a call gave for the bytes from the pattern on, a the place of the extended header
module _ (T : List ℕ) (s : List ℕ) (o : Outline) (p : PayloadContent) (l : ℕ) (is-left : l ≡ length s - o.place) where
  abbrev t : ℕ
  t = o.header_type

  pub outlined_lacks : l < 42 → T ≡ outlined_laid T s o p
  unfolding outlined_laid
  outlined_lacks h = rw (lt-leb 42 (length s - o.place) (rw (← is-left) h))

  pub outlined_short : 42 ≤ l → length T < 37 → T ≡ outlined_laid T s o p
  unfolding outlined_laid
  outlined_short h k = message_short T (outlined_item s o p) k ∙ rw (le-leb 42 (length s - o.place) (rw (← is-left) h))

  -- w to z are what the calls gave for why the identifiers ended
  pub outlined-row : (A B C D : List ℕ) (a w x y z : ℕ) → 42 ≤ l → 37 ≤ length T → a ≡ extended_place_of t (o.place + 16)
      → A ≡ over T 0 (lead_numbers (stored_at s o.place) (standard_at t o.length s (o.place + 16))) → B ≡ over A 19 (extended_numbers (extended_if (flag 1 t) s a)) → C ≡ over B 28 (payload_numbers p)
      → w ≡ stored_end_of (stored_at s o.place) → x ≡ text_end_of (standard_at t o.length s (o.place + 16)).ecu_id → y ≡ application_end_of (extended_if (flag 1 t) s a) → z ≡ context_end_of (extended_if (flag 1 t) s a)
      → D ≡ over C 33 (w ∷ x ∷ y ∷ z ∷ []) → D ≡ outlined_laid T s o p
  unfolding outlined_laid outlined_item item_of
  outlined-row A B C D a w x y z h fits e p1 p2 p3 q1 q2 q3 q4 p4 =
      let place : ℕ → Option ExtendedHeader = λ m. extended_if (flag 1 t) s m in
      item_row T A B C fits D (record {
        storage_header = stored_at s o.place;
        header = standard_at t o.length s (o.place + 16);
        extended_header = extended_if (flag 1 t) s (extended_place_of t (o.place + 16));
        filtered = false;
      }) p p1 (p2 ∙ ap (λ (m : ℕ). over A 19 (extended_numbers (place m))) e) p3
      (ends_row C D (stored_at s o.place) (standard_at t o.length s (o.place + 16)) (place (extended_place_of t (o.place + 16))) w x y z q1 q2
      (q3 ∙ ap (λ (m : ℕ). application_end_of (place m)) e) (q4 ∙ ap (λ (m : ℕ). context_end_of (place m)) e) p4)
      ∙ rw (le-leb 42 (length s - o.place) (rw (← is-left) h))

pub ruleset outlined = (byte_there, letter_zero, letter_else, four_letters_lem, three_letters, word_big, word_little, id_read, id_missing, behind_four, behind_none, behind_three, text_there, text_none, num_there, num_none, extended_row_there, extended_row_none, end_there, end_none, application_there, application_none, context_there, context_none, stored_end_there, ecu_end_there, stored_row_there, front_row_there, standard_row_there, lead_row_there, outlined_lacks, outlined_short, outlined-row)
