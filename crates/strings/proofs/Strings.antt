-- Strings: the law of the rule, what the search for a zero byte needs, and the answers of the functions.
use Prim.Native.Nat.{ℕ, zero, suc, ◌+◌, ◌-◌, ◌≤◌, ◌<◌, zero-le}
use native.Mathlib.Omega.{arith}
use native.Mathlib.Nat.{add-zero, zero-add, sub-zero, not-suc-le-zero}
use mathlib.Core.Path.{◌≡◌, refl, sym, ap, ap₂, ◌∙◌}
use mathlib.Core.Bool.{Bool, true, false, ◌&&◌}
use mathlib.Core.List.{List, ◌++◌}
use lib.ListN.{length, get_or, get_or-append}
use lib.Dec.{leb, ltb, eqb}
use borrow.Author.Tests.{le-leb, lt-ltb, le-ltb, eq-eqb, ne_eqb, leb-true, leb-false}
use Rattle.wire.specs.Answer.Ans.{done, need}
use Rattle.wire.specs.Parser.{pick, lacking}
use Rattle.wire.specs.Lawful.{Lawful, Reads}
use Rattle.wire.specs.Run.{range}
use Rattle.wire.specs.declared.Range.{Range}
use Rattle.wire.specs.declared.Ended.{Ended}
use Rattle.wire.proofs.Laws.{sized_law}
use Rattle.wire.proofs.Step.{asking_done, asking_need}
use Rattle.strings.specs.Utf8.{valid_up_to_of, least}
use Rattle.strings.specs.Text.{before0, letter, Letters, text_need, text_of, ended_of, ended_text, text, identified}
use Rattle.strings.proofs.Utf8.{valid_up_to_same, Valid, valid_none, valid_more, valid_all, one_letter}
use Rattle.strings.proofs.Longest.{prefix_within}

-- ---- the law
before0_same : (n : ℕ) (s t : List ℕ) (at : ℕ) → at + n ≤ length s → before0 n (s ++ t) at ≡ before0 n s at
before0_same zero s t at h = refl
before0_same (suc n) s t at h =
    rw (get_or-append s t 0 at (omega arith), before0_same n s t (suc at) (omega arith))

pub before0_le : (n : ℕ) (s : List ℕ) (at : ℕ) → before0 n s at ≤ n
before0_le zero s at = zero-le
before0_le (suc n) s at = by (eqb (get_or s at 0) 0) (before0_le n s (suc at))
  where
    by : (t : Bool) {k : ℕ} → k ≤ n → pick t 0 (suc k) ≤ suc n
    by true h = zero-le
    by false h = omega arith

-- a string's value is no longer than its size
pub text_within : (n : ℕ) (s : List ℕ) (at : ℕ) → (text_of n s at).len ≤ n
unfolding text_of
text_within n s at = omega (arith, prefix_within (before0 n s at) s at, before0_le n s at)

text_of_same : (n : ℕ) → Reads n (text_of n)
unfolding text_of
text_of_same n =
    record {
      same = λ s t at h.
          let l : before0 n s at ≤ n = before0_le n s at in
          ap (range at) (ap (λ (k : ℕ). valid_up_to_of k (s ++ t) at) (before0_same n s t at h) ∙ valid_up_to_same (before0 n s at) s t at (omega arith));
    }

ended_same : (n : ℕ) (s t : List ℕ) (at : ℕ) → at + n ≤ length s → ended_of n (s ++ t) at ≡ ended_of n s at
unfolding ended_of
ended_same n s t at h = rw (before0_same n s t at h, (text_of_same n).same s t at h)

ended_text_same : (n : ℕ) → Reads n (ended_text n)
unfolding ended_text
ended_text_same n = record { same = λ s t at h. ap₂ (λ (p : Range) (w : Ended). record { place = p; ended = w }) ((text_of_same n).same s t at h) (ended_same n s t at h) }

text_need_small : (n : ℕ) (s : List ℕ) (at : ℕ) → length s - at < n → text_need n s at ≤ lacking n s at
text_need_small n s at h = by (ltb (before0 (length s - at) s at) (length s - at))
  where
    by : (b : Bool) → pick b (n - (length s - at)) 1 ≤ n - (length s - at)
    by true = omega arith
    by false = omega arith

pub text_law : (n : ℕ) → Lawful (text n)
unfolding text
text_law n = sized_law n (text_need n) (ended_text n) (text_need_small n) (ended_text_same n)

pub identified_law : Lawful identified
unfolding identified
identified_law = text_law 4

-- ---- the search, at the code's numbers
pub found : (m : ℕ) (s : List ℕ) (at : ℕ) → 0 < m → get_or s at 0 ≡ 0 → before0 m s at ≡ 0
found zero s at h e = absurd (not-suc-le-zero h)
found (suc m) s at h e = rw (eq-eqb _ _ e)

pub passed : (m : ℕ) (s : List ℕ) (at : ℕ) → 0 < m → (get_or s at 0 ≡ 0 → ⊥) → before0 m s at ≡ suc (before0 (m - 1) s (at + 1))
passed zero s at h e = absurd (not-suc-le-zero h)
passed (suc m) s at h e =
    let a : suc at ≡ at + 1 = omega arith in
    let b : m ≡ suc m - 1 = omega arith in
    rw (ne_eqb _ _ e) (ap suc (ap₂ (λ (i j : ℕ). before0 i s j) b a))

-- k bytes were passed, and none of them is zero
abbrev pub Passed : List ℕ → ℕ → ℕ → ℕ → Type 0
Passed s at n k = (k ≤ n) × (before0 n s at ≡ k + before0 (n - k) s (at + k))

module _ (s : List ℕ) (at n : ℕ) where
  pub passed_none : Passed s at n 0
  passed_none = (zero-le, rw (sub-zero, add-zero, zero-add))

  pub passed_more : (k : ℕ) → k < n → (get_or s (at + k) 0 ≡ 0 → ⊥) → Passed s at n k → Passed s at n (k + 1)
  passed_more k l e h =
      let a : at + k + 1 ≡ at + (k + 1) = omega arith in
      let b : n - k - 1 ≡ n - (k + 1) = omega arith in
      let p : before0 (n - k) s (at + k) ≡ suc (before0 (n - (k + 1)) s (at + (k + 1))) = passed (n - k) s (at + k) (omega arith) e ∙ ap suc (ap₂ (λ (i j : ℕ). before0 i s j) b a) in
      (omega arith, omega (arith, h.1, p))

  pub passed_found : (k : ℕ) → k < n → get_or s (at + k) 0 ≡ 0 → Passed s at n k → k ≡ before0 n s at
  passed_found k l e h = omega (arith, h.1, found (n - k) s (at + k) (omega arith) e)

  pub passed_all : (k : ℕ) → n ≤ k → Passed s at n k → n ≡ before0 n s at
  passed_all k l h =
      let z : n - k ≡ 0 = omega arith in
      omega (arith, h.1, ap (λ (i : ℕ). before0 i s (at + k)) z)

-- ---- letters: none is zero, and each is a sequence by itself
pub no_truth : {X : Type 0} → false ≡ true → X
no_truth e = let z : ◌≡◌ {A = ℕ} 0 1 = cc in absurd (omega arith)

pub letter_is : (b : ℕ) → letter b ≡ true → (0 < b) × (b ≤ 0x7F)
letter_is b e = by (leb 1 b) (leb b 0x7F) refl refl e
  where
    by : (t u : Bool) → leb 1 b ≡ t → leb b 0x7F ≡ u → (t && u) ≡ true → (0 < b) × (b ≤ 0x7F)
    by true true p q z = (leb-true 1 b p, leb-true b 0x7F q)
    by true false p q z = no_truth z
    by false u p q z = no_truth z

pub is_letter_lem : (b : ℕ) → (b ≡ 0 → ⊥) → b ≤ 0x7F → letter b ≡ true
is_letter_lem b z h = rw (le-leb 1 b (omega (arith, z)), le-leb b 0x7F h)

module _ (s : List ℕ) (at n : ℕ) where
  pub letters_none : Letters s at n 0
  letters_none = (zero-le, λ i h. absurd (not-suc-le-zero h))

  -- t is what a call said of the next byte
  pub letters_more : (k : ℕ) (t : Bool) → k < n → t ≡ letter (get_or s (at + k) 0) → t ≡ true → Letters s at n k → Letters s at n (k + 1)
  letters_more k t l e z p = (omega arith, λ i j. by i j (leb k i) refl)
    where
      by : (i : ℕ) → i < k + 1 → (u : Bool) → leb k i ≡ u → letter (get_or s (at + i) 0) ≡ true
      by i j true q =
          let same : k ≡ i = omega (arith, leb-true k i q) in
          rw (← same) (sym e ∙ z)
      by i j false q = p.1 i (omega (arith, leb-false k i q))

  pub letters_on : (k : ℕ) → k < n → (get_or s (at + k) 0 ≡ 0 → ⊥) → get_or s (at + k) 0 ≤ 0x7F → Letters s at n k → Letters s at n (k + 1)
  letters_on k l z h p = letters_more k true l (sym (is_letter_lem _ z h)) refl p

  fewer_letters : (k : ℕ) → Letters s at n (suc k) → Letters s at n k
  fewer_letters k p = (omega (arith, p.0), λ i h. p.1 i (omega arith))

  letters_passed : (k : ℕ) → Letters s at n k → Passed s at n k
  letters_passed zero p = passed_none s at n
  letters_passed (suc k) p =
      let b = letter_is (get_or s (at + k) 0) (p.1 k (omega arith)) in
      let q : suc k ≡ k + 1 = omega arith in
      rw q (passed_more s at n k (omega (arith, p.0)) (λ e. omega (arith, e, b.0)) (letters_passed k (fewer_letters k p)))

  letters_valid : (k : ℕ) → Letters s at n k → Valid s at n k
  letters_valid zero p = valid_none s at n
  letters_valid (suc k) p =
      let b = letter_is (get_or s (at + k) 0) (p.1 k (omega arith)) in
      let q : suc k ≡ k + 1 = omega arith in
      rw q (valid_more s at n k 1 (omega (arith, p.0)) (one_letter (n - k) s (at + k) (omega (arith, p.0)) b.1) (λ e. omega (arith, e)) (letters_valid k (fewer_letters k p)))

-- the letters at the front of four bytes: a to d are what calls said of the bytes
module _ (s : List ℕ) (at : ℕ) (a : Bool) (ea : a ≡ letter (get_or s at 0)) (ta : a ≡ true) where
  pub letters_one : Letters s at 4 1
  letters_one =
      let z : at + 0 ≡ at = omega arith in
      letters_more s at 4 0 a (omega arith) (rw z ea) ta (letters_none s at 4)

  module _ (b : Bool) (eb : b ≡ letter (get_or s (at + 1) 0)) (tb : b ≡ true) where
    pub letters_two : Letters s at 4 2
    letters_two = letters_more s at 4 1 b (omega arith) eb tb letters_one

    module _ (c : Bool) (ec : c ≡ letter (get_or s (at + 2) 0)) (tc : c ≡ true) where
      pub letters_three : Letters s at 4 3
      letters_three = letters_more s at 4 2 c (omega arith) ec tc letters_two

      pub letters_four : (d : Bool) → d ≡ letter (get_or s (at + 3) 0) → d ≡ true → Letters s at 4 4
      letters_four d ed td = letters_more s at 4 3 d (omega arith) ed td letters_three

module _ (s : List ℕ) (at n : ℕ) where
  all_valid : (k : ℕ) → Letters s at n k → valid_up_to_of k s at ≡ k
  all_valid k p = sym (valid_all s at k k k (omega arith) refl (letters_valid s at k k (omega arith, p.1)))

  -- the value's length: all n bytes are letters; or k of them are, and a zero byte stands behind these
  pub letters_all : (k : ℕ) → k ≡ n → Letters s at n k → n ≡ (text_of n s at).len
  unfolding text_of
  letters_all k q p =
      let r : Letters s at n n = rw q at p in
      rw (← passed_all s at n n (omega arith) (letters_passed s at n n r)) (sym (all_valid n r))

  pub letters_end : (k : ℕ) → (k ≡ n → ⊥) → get_or s (at + k) 0 ≡ 0 → Letters s at n k → k ≡ (text_of n s at).len
  unfolding text_of
  letters_end k z e p =
      rw (← passed_found s at n k (omega (arith, z, p.0)) e (letters_passed s at n k p)) (sym (all_valid k p))

  -- the general way: z is what `before_zero` found, v what `valid_up_to` found
  pub content_is : (z v : ℕ) → n ≤ length s - at → z ≡ before0 n s at → v ≡ valid_up_to_of (least z (length s - at)) s at → v ≡ (text_of n s at).len
  unfolding text_of
  content_is z v h e f =
      let k : z ≤ n = rw e (before0_le n s at) in
      rw (le-leb z (length s - at) (omega arith), e) at f

-- ---- the answers, as the code has them: l is what is left, z what `before_zero` found, and v what `content` found
module _ (n : ℕ) (s : List ℕ) (at l : ℕ) (is-left : l ≡ length s - at) where
  pub text_done : (v : ℕ) (w : Ended) → v ≡ (text_of n s at).len → w ≡ ended_of n s at → n ≤ l → done (record { place = range at v; ended = w }) (at + n) ≡ text n s at
  unfolding text text_of ended_text
  text_done v w e q h = sym (asking_done n _ _ s at (omega arith) ∙ ap₂ (λ (k : ℕ) (y : Ended). done (record { place = range at k; ended = y }) (at + n)) (sym e) (sym q))

  pub text_more : (z : ℕ) → z ≡ before0 l s at → z < l → l < n → need (n - l) ≡ text n s at
  unfolding text
  text_more z e f h =
      let e' : z ≡ before0 (length s - at) s at = rw (← is-left) e in
      rw is-left (sym (asking_need n _ _ s at (omega arith) ∙ rw (lt-ltb (before0 (length s - at) s at) (length s - at) (omega arith))))

  pub text_one : (z : ℕ) → z ≡ before0 l s at → l ≤ z → l < n → need 1 ≡ text n s at
  unfolding text
  text_one z e f h =
      let e' : z ≡ before0 (length s - at) s at = rw (← is-left) e in
      sym (asking_need n _ _ s at (omega arith) ∙ rw (le-ltb (before0 (length s - at) s at) (length s - at) (omega arith)))

pub ruleset texts = (text_done, text_more, text_one)
