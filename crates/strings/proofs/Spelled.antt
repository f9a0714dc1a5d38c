-- A string's value, told from the front: a zero byte ends it, a letter is passed, a longer sequence is passed whole, anything else ends it. Four laws over
-- any size, and then what `identifier` and its four steps need of them.
use Prim.Native.Nat.{ℕ, zero, suc, ◌+◌, ◌-◌, ◌≤◌, ◌<◌}
use native.Mathlib.Omega.{arith}
use native.Mathlib.Nat.{not-suc-le-zero}
use mathlib.Core.Path.{◌≡◌, refl, sym, ap, ◌∙◌}
use mathlib.Core.Bool.{Bool, true, false, ◌&&◌}
use mathlib.Core.List.{List, [], ◌∷◌}
use lib.ListN.{length, get_or}
use lib.Dec.{leb, eqb}
use borrow.Author.Tests.{le-leb, lt-leb, lt-ltb, le-ltb, leb-true, leb-false, eqb-true, eqb-false}
use Rattle.wire.specs.Answer.Ans.{done, need}
use Rattle.wire.specs.Parser.{pick}
use Rattle.wire.specs.Run.{range}
use Rattle.wire.specs.declared.Ended.{Ended}
use Rattle.wire.proofs.Step.{asking_need}
use Rattle.strings.specs.Utf8.{Span, Row, table, inside, fits, formed, among, sequence, valid_up_to_of}
use Rattle.strings.specs.Text.{before0, letter, text_need, text_of, ended_of, text, identified, id_length_of}
use Rattle.strings.proofs.Utf8.{sequence_le, valid_step, valid_stop, one_letter}
use Rattle.strings.proofs.Longest.{between, prefix_within}
use Rattle.strings.proofs.Strings.{Passed, passed_none, passed_more, passed, found, before0_le, text_within, no_truth, letter_is, is_letter_lem, text_done}

-- ---- two facts of the table's rows, told by computing
abbrev no_zeros : List Span → Bool
no_zeros [] = true
no_zeros (r ∷ rs) = leb 1 r.from && no_zeros rs

-- no byte behind a lead byte is zero
abbrev zero_free : List Row → Bool
zero_free [] = true
zero_free (r ∷ rs) = no_zeros r.rest && zero_free rs

-- of a lead byte above b the row has at least m bytes behind it
abbrev longer_above : ℕ → ℕ → List Row → Bool
longer_above b m [] = true
longer_above b m (r ∷ rs) = pick (leb r.lead.to b) true (leb m (length r.rest)) && longer_above b m rs

both : (t u : Bool) → (t && u) ≡ true → (t ≡ true) × (u ≡ true)
both true true e = (refl, refl)
both true false e = no_truth e
both false u e = no_truth e

-- ---- so a sequence that doesn't begin with a zero byte has none
module _ (s : List ℕ) (at n : ℕ) where
  fits_passed : (rs : List Span) (k : ℕ) → no_zeros rs ≡ true → fits rs s at k ≡ true → k + length rs ≤ n → Passed s at n k → Passed s at n (k + length rs)
  fits_passed [] k a e h p =
      let q : k ≡ k + 0 = omega arith in
      rw (← q) p
  fits_passed (r ∷ rs) k a e h p =
      let f = both (inside r (get_or s (at + k) 0)) (fits rs s at (suc k)) e in
      let from = leb-true r.from (get_or s (at + k) 0) (both (leb r.from (get_or s (at + k) 0)) _ f.0).0 in
      let above = both (leb 1 r.from) (no_zeros rs) a in
      let one : 1 ≤ r.from = leb-true 1 r.from above.0 in
      let z : k + 1 ≡ suc k = omega arith in
      let g : suc k + length rs ≡ k + suc (length rs) = omega arith in
      let next : Passed s at n (suc k) = rw z at (passed_more s at n k (omega arith) (λ y. omega (arith, y, from, one)) p) in
      rw (← g) (fits_passed rs (suc k) above.1 f.1 (omega arith) next)

  formed_passed : (rest : List Span) (w : ℕ) → no_zeros rest ≡ true → (get_or s at 0 ≡ 0 → ⊥) → formed rest n s at ≡ w → 0 < w → Passed s at n w
  unfolding formed
  formed_passed rest w a z e p = by (leb (suc (length rest)) n) (fits rest s at 1) refl refl e
    where
      by : (t f : Bool) → leb (suc (length rest)) n ≡ t → fits rest s at 1 ≡ f → pick (t && f) (suc (length rest)) 0 ≡ w → Passed s at n w
      by true true q g x =
          let l : suc (length rest) ≤ n = leb-true _ _ q in
          let at0 : at + 0 ≡ at = omega arith in
          let first : Passed s at n (0 + 1) = passed_more s at n 0 (omega arith) (rw at0 z) (passed_none s at n) in
          let o : 0 + 1 ≡ 1 = omega arith in
          let y : 1 + length rest ≡ w = omega arith in
          rw (← y) (fits_passed rest 1 a g (omega arith) (rw o at first))
      by true false q g x = absurd (not-suc-le-zero (rw (← x) at p))
      by false f q g x = absurd (not-suc-le-zero (rw (← x) at p))

  among_passed : (rs : List Row) (w : ℕ) → zero_free rs ≡ true → (get_or s at 0 ≡ 0 → ⊥) → among rs n s at ≡ w → 0 < w → Passed s at n w
  unfolding among
  among_passed [] w a z e p = absurd (not-suc-le-zero (rw (← e) at p))
  among_passed (r ∷ rs) w a z e p = by (both (no_zeros r.rest) (zero_free rs) a) (inside r.lead (get_or s at 0)) e (λ b x. among_passed rs w b z x p)
    where
      by : (no_zeros r.rest ≡ true) × (zero_free rs ≡ true) → (t : Bool) → pick t (formed r.rest n s at) (among rs n s at) ≡ w
          → (zero_free rs ≡ true → among rs n s at ≡ w → Passed s at n w) → Passed s at n w
      by b true x more = formed_passed r.rest w b.0 z x p
      by b false x more = more b.1 x

  pub sequence_passed : (w : ℕ) → (get_or s at 0 ≡ 0 → ⊥) → sequence n s at ≡ w → 0 < w → Passed s at n w
  unfolding sequence
  sequence_passed w z e p = among_passed table w refl z e p

-- ---- and one with a lead byte above 7F has more than one byte, with one above EF more than three
module _ (s : List ℕ) (at n b m : ℕ) (h : b < get_or s at 0) where
  formed_longer : (rest : List Span) → m ≤ length rest → 0 < formed rest n s at → m < formed rest n s at
  unfolding formed
  formed_longer rest l p = by (leb (suc (length rest)) n && fits rest s at 1) p
    where
      by : (t : Bool) → 0 < pick t (suc (length rest)) 0 → m < pick t (suc (length rest)) 0
      by true q = omega arith
      by false q = omega arith

  row_longer : (r : Row) (x : ℕ) → pick (leb r.lead.to b) true (leb m (length r.rest)) ≡ true → (0 < x → m < x)
      → 0 < pick (inside r.lead (get_or s at 0)) (formed r.rest n s at) x → m < pick (inside r.lead (get_or s at 0)) (formed r.rest n s at) x
  row_longer r x e f = by (leb r.lead.from (get_or s at 0)) (leb (get_or s at 0) r.lead.to) (leb r.lead.to b) refl refl e
    where
      by : (t u v : Bool) → leb (get_or s at 0) r.lead.to ≡ u → leb r.lead.to b ≡ v → pick v true (leb m (length r.rest)) ≡ true
          → 0 < pick (t && u) (formed r.rest n s at) x → m < pick (t && u) (formed r.rest n s at) x
      by true true true q k y p = absurd (omega (arith, leb-true _ r.lead.to q, leb-true r.lead.to b k))
      by true true false q k y p = formed_longer r.rest (leb-true m (length r.rest) y) p
      by true false v q k y p = f p
      by false u v q k y p = f p

  among_longer : (rs : List Row) → longer_above b m rs ≡ true → 0 < among rs n s at → m < among rs n s at
  unfolding among
  among_longer [] a p = absurd (not-suc-le-zero p)
  among_longer (r ∷ rs) a p =
      let c = both (pick (leb r.lead.to b) true (leb m (length r.rest))) (longer_above b m rs) a in
      row_longer r (among rs n s at) c.0 (among_longer rs c.1) p

module _ (s : List ℕ) (at n : ℕ) where
  pub more_than_one : 0x7F < get_or s at 0 → 0 < sequence n s at → 1 < sequence n s at
  unfolding sequence
  more_than_one h = among_longer s at n 0x7F 1 h table refl

  pub more_than_three : 0xEF < get_or s at 0 → 0 < sequence n s at → 3 < sequence n s at
  unfolding sequence
  more_than_three h = among_longer s at n 0xEF 3 h table refl

-- so a single byte above 7F is none
no_room : (s : List ℕ) (at : ℕ) → 0x7F < get_or s at 0 → 0 ≡ sequence 1 s at
no_room s at h = by (sequence 1 s at) (sequence_le 1 s at) (more_than_one s at 1 h)
  where
    by : (w : ℕ) → w ≤ 1 → (0 < w → 1 < w) → 0 ≡ w
    by zero l f = refl
    by (suc w) l f = absurd (omega (arith, f (omega arith)))

-- ---- the rule as four laws: how many bytes the value of a string of size n has
abbrev pub valued : ℕ → List ℕ → ℕ → ℕ
valued n s at = (text_of n s at).len

module _ (n : ℕ) (s : List ℕ) (at : ℕ) where
  -- a zero byte ends it
  pub valued_zero : 0 < n → get_or s at 0 ≡ 0 → valued n s at ≡ 0
  unfolding text_of
  valued_zero h e = omega (arith, prefix_within (before0 n s at) s at, found n s at h e)

  -- a sequence within the size is passed whole
  pub valued_more : (w : ℕ) → (get_or s at 0 ≡ 0 → ⊥) → w ≡ sequence n s at → 0 < w → valued n s at ≡ w + valued (n - w) s (at + w)
  unfolding text_of
  valued_more w z e p =
      let q = sequence_passed s at n w z (sym e) p in
      let f : sequence (before0 n s at) s at ≡ w = between n (before0 n s at) s at w (sym e) p (omega (arith, q.1)) in
      let g : before0 n s at - w ≡ before0 (n - w) s (at + w) = omega (arith, q.1) in
      valid_step (before0 n s at) s at w (omega (arith, q.1)) (sym f) p ∙ ap (λ (k : ℕ). w + valid_up_to_of k s (at + w)) g

  -- a letter is one of a single byte
  pub valued_letter : 0 < n → (get_or s at 0 ≡ 0 → ⊥) → get_or s at 0 ≤ 0x7F → valued n s at ≡ 1 + valued (n - 1) s (at + 1)
  valued_letter h z b = valued_more 1 z (one_letter n s at h b) (omega arith)

  -- anything else ends it
  pub valued_none : sequence n s at ≡ 0 → valued n s at ≡ 0
  unfolding text_of
  valued_none e = by (sequence (before0 n s at) s at) refl
    where
      by : (w : ℕ) → sequence (before0 n s at) s at ≡ w → valid_up_to_of (before0 n s at) s at ≡ 0
      by zero q = valid_stop (before0 n s at) s at (sym q)
      by (suc w) q =
          let l : suc w ≤ before0 n s at = rw (← q) (sequence_le (before0 n s at) s at) in
          let x : sequence n s at ≡ suc w = between (before0 n s at) n s at (suc w) q (omega arith) (omega (arith, before0_le n s at)) in
          absurd (omega (arith, x, e))

-- ---- the steps: k bytes of an identifier's value are told, and the next one stands at p
abbrev told : ℕ → List ℕ → ℕ → ℕ
told k s at = k + valued (4 - k) s (at + k)

module _ (s : List ℕ) (at k p : ℕ) (place : p ≡ at + k) where
  -- w bytes more are the rest of it
  rest_told : (w : ℕ) → w ≡ valued (4 - k) s p → k + w ≡ told k s at
  rest_told w e = ap (λ (i : ℕ). k + i) (e ∙ ap (valued (4 - k) s) place)

  -- w bytes are passed
  passes : (w : ℕ) → (get_or s p 0 ≡ 0 → ⊥) → w ≡ sequence (4 - k) s p → 0 < w → told (k + w) s at ≡ told k s at
  passes w z e q =
      let a : at + (k + w) ≡ p + w = omega arith in
      let b : 4 - (k + w) ≡ 4 - k - w = omega arith in
      let c : told (k + w) s at ≡ k + (w + valued (4 - k - w) s (p + w)) = rw (a, b) (omega arith) in
      c ∙ rest_told (w + valued (4 - k - w) s (p + w)) (sym (valued_more (4 - k) s p w z e q))

  letter_passes : k < 4 → letter (get_or s p 0) ≡ true → told (k + 1) s at ≡ told k s at
  letter_passes h e =
      let b = letter_is (get_or s p 0) e in
      passes 1 (λ z. omega (arith, z, b.0)) (one_letter (4 - k) s p (omega arith) b.1) (omega arith)

  -- the sequence is the rest, or there is none
  longer_ends : (w : ℕ) → 0x7F < get_or s p 0 → w ≡ sequence (4 - k) s p → (1 < w → w ≤ 4 - k → w ≡ 4 - k) → k + w ≡ told k s at
  longer_ends zero b e h = rest_told 0 (sym (valued_none (4 - k) s p (sym e)))
  longer_ends (suc w) b e h =
      let l : 1 < suc w = omega (arith, e, more_than_one s p (4 - k) b (omega (arith, e))) in
      let q : suc w ≡ 4 - k = h l (omega (arith, e, sequence_le (4 - k) s p)) in
      let f : suc w + valued (4 - k - suc w) s (p + suc w) ≡ valued (4 - k) s p = sym (valued_more (4 - k) s p (suc w) (λ z. omega arith) e (omega arith)) in
      rest_told (suc w) (omega (arith, f, text_within (4 - k - suc w) s (p + suc w)))

-- ---- at the code's numbers: t is what was said of a letter at p, r what the next step answered, and w is a sequence's length
no_letter : (b : ℕ) → letter b ≡ false → (b ≡ 0 → ⊥) → 0x7F < b
no_letter b e z = by (leb b 0x7F) refl
  where
    by : (u : Bool) → leb b 0x7F ≡ u → 0x7F < b
    by true q = no_truth (sym e ∙ is_letter_lem b z (leb-true b 0x7F q))
    by false q = leb-false b 0x7F q

module _ (s : List ℕ) (p : ℕ) (t : Bool) (said : t ≡ letter (get_or s p 0)) where
  -- what `longer_at` asks
  pub above_letters : t ≡ false → (get_or s p 0 ≡ 0 → ⊥) → 0x7F < get_or s p 0
  above_letters f z = no_letter (get_or s p 0) (sym said ∙ f) z

  -- of the byte behind k others
  module _ (at k : ℕ) (place : p ≡ at + k) where
    passes_letter : (r : ℕ) → t ≡ true → r ≡ told (k + 1) s at → k < 4 → r ≡ told k s at
    passes_letter r f e h = e ∙ letter_passes s at k p place h (sym said ∙ f)

    passes_longer : (w j r : ℕ) → t ≡ false → (get_or s p 0 ≡ 0 → ⊥) → w ≡ sequence (4 - k) s p → w ≡ j → 0 < j → r ≡ told (k + j) s at → r ≡ told k s at
    passes_longer w j r f z e q h g = g ∙ passes s at k p place j z (sym q ∙ e) h

module _ (s : List ℕ) (at : ℕ) where
  ends_at_zero : (k : ℕ) → get_or s (at + k) 0 ≡ 0 → k < 4 → k ≡ told k s at
  ends_at_zero k e h = omega (arith, rest_told s at k (at + k) refl 0 (sym (valued_zero (4 - k) s (at + k) (omega arith) e)))

  -- nothing is told before the first byte
  from_the_first : told 0 s at ≡ valued 4 s at
  from_the_first =
      let z : at + 0 ≡ at = omega arith in
      rw z (omega arith)

  pub first_zero : get_or s at 0 ≡ 0 → 0 ≡ valued 4 s at
  first_zero e = sym (valued_zero 4 s at (omega arith) e)

  first_rest : (w : ℕ) → 0x7F < get_or s at 0 → w ≡ sequence 4 s at → (1 < w → w ≤ 4 → w ≡ 4) → w ≡ valued 4 s at
  first_rest w b e h = omega (arith, longer_ends s at 0 at (omega arith) w b e h, from_the_first)

  pub first_four : (w : ℕ) → 0xEF < get_or s at 0 → w ≡ sequence 4 s at → w ≡ valued 4 s at
  first_four w b e = first_rest w (omega arith) e (λ x y. omega (arith, e, more_than_three s at 4 b (omega (arith, e))))

  module _ (t : Bool) (said : t ≡ letter (get_or s at 0)) where
    pub first_letter : (r : ℕ) → t ≡ true → r ≡ told 1 s at → r ≡ valued 4 s at
    first_letter r f e = passes_letter s at t said at 0 (omega arith) r f e (omega arith) ∙ from_the_first

    pub first_longer : (w j r : ℕ) → t ≡ false → (get_or s at 0 ≡ 0 → ⊥) → w ≡ sequence 4 s at → w ≡ j → 0 < j → r ≡ told j s at → r ≡ valued 4 s at
    first_longer w j r f z e q h g =
        let n : 0 + j ≡ j = omega arith in
        passes_longer s at t said at 0 (omega arith) w j r f z e q h (rw n g) ∙ from_the_first

    pub first_none : (w : ℕ) → t ≡ false → (get_or s at 0 ≡ 0 → ⊥) → w ≡ sequence 4 s at → (w ≡ 2 → ⊥) → (w ≡ 3 → ⊥) → w ≡ valued 4 s at
    first_none w f z e two three = first_rest w (above_letters s at t said f z) e (λ x y. omega arith)

  pub second_zero : get_or s (at + 1) 0 ≡ 0 → 1 ≡ told 1 s at
  second_zero e = ends_at_zero 1 e (omega arith)

  module _ (t : Bool) (said : t ≡ letter (get_or s (at + 1) 0)) where
    pub second_letter : (r : ℕ) → t ≡ true → r ≡ told 2 s at → r ≡ told 1 s at
    second_letter r f e = passes_letter s (at + 1) t said at 1 refl r f e (omega arith)

    pub second_longer : (w r : ℕ) → t ≡ false → (get_or s (at + 1) 0 ≡ 0 → ⊥) → w ≡ sequence 3 s (at + 1) → w ≡ 2 → r ≡ told 3 s at → r ≡ told 1 s at
    second_longer w r f z e q g = passes_longer s (at + 1) t said at 1 refl w 2 r f z e q (omega arith) g

    -- a sequence of three is the rest
    pub second_rest : (w : ℕ) → t ≡ false → (get_or s (at + 1) 0 ≡ 0 → ⊥) → w ≡ sequence 3 s (at + 1) → (w ≡ 2 → ⊥) → 1 + w ≡ told 1 s at
    second_rest w f z e n = longer_ends s at 1 (at + 1) refl w (above_letters s (at + 1) t said f z) e (λ x y. omega arith)

  pub third_zero : get_or s (at + 2) 0 ≡ 0 → 2 ≡ told 2 s at
  third_zero e = ends_at_zero 2 e (omega arith)

  module _ (t : Bool) (said : t ≡ letter (get_or s (at + 2) 0)) where
    pub third_letter : (r : ℕ) → t ≡ true → r ≡ told 3 s at → r ≡ told 2 s at
    third_letter r f e = passes_letter s (at + 2) t said at 2 refl r f e (omega arith)

    -- a sequence of two is the rest
    pub third_rest : (w : ℕ) → t ≡ false → (get_or s (at + 2) 0 ≡ 0 → ⊥) → w ≡ sequence 2 s (at + 2) → 2 + w ≡ told 2 s at
    third_rest w f z e = longer_ends s at 2 (at + 2) refl w (above_letters s (at + 2) t said f z) e (λ x y. omega arith)

  -- the fourth byte is the last: a longer sequence has no room
  module _ (t : Bool) (said : t ≡ letter (get_or s (at + 3) 0)) where
    pub fourth_letter : t ≡ true → 4 ≡ told 3 s at
    fourth_letter f = passes_letter s (at + 3) t said at 3 refl 4 f (omega (arith, text_within 0 s (at + 4))) (omega arith)

    pub fourth_other : t ≡ false → 3 ≡ told 3 s at
    fourth_other f = by (eqb (get_or s (at + 3) 0) 0) refl
      where
        by : (u : Bool) → eqb (get_or s (at + 3) 0) 0 ≡ u → 3 ≡ told 3 s at
        by true q = ends_at_zero 3 (eqb-true _ _ q) (omega arith)
        by false q =
            let b = above_letters s (at + 3) t said f (eqb-false _ _ q) in
            longer_ends s at 3 (at + 3) refl 0 b (no_room s (at + 3) b) (λ x y. omega arith)

pub ruleset spelled = (first_zero, first_letter, first_longer, first_none, first_four, second_zero, second_letter, second_longer, second_rest, third_zero, third_letter, third_rest, fourth_letter, fourth_other)

-- ---- what an identifier needs: l bytes are left
module _ (s : List ℕ) (at l : ℕ) (is-left : l ≡ length s - at) where
  some_missing : (m : ℕ) → before0 l s at < l → 4 - l ≡ m → m ≡ text_need 4 s at
  some_missing m h e = rw (← is-left, lt-ltb (before0 l s at) l h) (sym e)

  just_one : l ≤ before0 l s at → 1 ≡ text_need 4 s at
  just_one h = rw (← is-left, le-ltb (before0 l s at) l h)

  pub one_zero : l ≡ 1 → get_or s at 0 ≡ 0 → 3 ≡ text_need 4 s at
  one_zero e z = some_missing 3 (omega (arith, found l s at (omega arith) z)) (omega arith)

  pub one_other : l ≡ 1 → (get_or s at 0 ≡ 0 → ⊥) → 1 ≡ text_need 4 s at
  one_other e z = just_one (omega (arith, passed l s at (omega arith) z))

  pub two_zero : l ≡ 2 → get_or s at 0 ≡ 0 → 2 ≡ text_need 4 s at
  two_zero e z = some_missing 2 (omega (arith, found l s at (omega arith) z)) (omega arith)

  pub two_second_zero : l ≡ 2 → (get_or s at 0 ≡ 0 → ⊥) → get_or s (at + 1) 0 ≡ 0 → 2 ≡ text_need 4 s at
  two_second_zero e z y = some_missing 2 (omega (arith, passed l s at (omega arith) z, found (l - 1) s (at + 1) (omega arith) y)) (omega arith)

  pub two_other : l ≡ 2 → (get_or s at 0 ≡ 0 → ⊥) → (get_or s (at + 1) 0 ≡ 0 → ⊥) → 1 ≡ text_need 4 s at
  two_other e z y = just_one (omega (arith, passed l s at (omega arith) z, passed (l - 1) s (at + 1) (omega arith) y))

  -- of none it is one, and of three both are one
  pub none_or_three : l < 4 → (l ≡ 1 → ⊥) → (l ≡ 2 → ⊥) → 1 ≡ text_need 4 s at
  none_or_three h a b = by (leb l (before0 l s at)) refl
    where
      by : (t : Bool) → leb l (before0 l s at) ≡ t → 1 ≡ text_need 4 s at
      by true q = just_one (leb-true _ _ q)
      by false q = some_missing 1 (leb-false _ _ q) (omega (arith, leb-false l (before0 l s at) q))

pub ruleset needed = (one_zero, one_other, two_zero, two_second_zero, two_other, none_or_three)

-- ---- the answers
module _ (s : List ℕ) (at l : ℕ) (is-left : l ≡ length s - at) where
  pub id_waits : (m : ℕ) → m ≡ text_need 4 s at → l < 4 → need m ≡ identified s at
  unfolding identified text
  id_waits m e h = sym (asking_need 4 _ _ s at (omega arith) ∙ ap need (sym e))

  pub id_done : (v : ℕ) (y : Ended) → v ≡ valued 4 s at → y ≡ ended_of 4 s at → 4 ≤ l → done (record { place = range at v; ended = y }) (at + 4) ≡ identified s at
  unfolding identified
  id_done v y e q h = text_done 4 s at l is-left v y e q h

-- ---- the length alone: where the four bytes are there it is the value's
length_whole : (s : List ℕ) (at : ℕ) → 4 ≤ length s - at → id_length_of s at ≡ valued 4 s at
unfolding id_length_of
length_whole s at h = rw (le-leb 4 (length s - at) h)

pub length_is : (s : List ℕ) (at v : ℕ) → v ≡ id_length_of s at → 4 ≤ length s - at → v ≡ (text_of 4 s at).len
length_is s at v e h = e ∙ length_whole s at h

-- as the code tells it: l bytes are left, v is what `from_first` gave
module _ (s : List ℕ) (at l : ℕ) (is-left : l ≡ length s - at) where
  pub length_there : (v : ℕ) → v ≡ valued 4 s at → 4 ≤ l → v ≡ id_length_of s at
  length_there v e h = e ∙ sym (length_whole s at (rw (← is-left) h))

  pub length_missing : l < 4 → 0 ≡ id_length_of s at
  unfolding id_length_of
  length_missing h = rw (lt-leb 4 (length s - at) (rw (← is-left) h))
