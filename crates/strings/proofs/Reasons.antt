-- Why a string ended: each reason is exactly its condition, by the definition's words and by what the code looks at, the value's length and the byte
-- behind it; and with the reason dropped the rule is the one that stood before there were reasons.
-- Assumes nothing.
use Prim.Native.Nat.{ℕ, zero, suc, ◌+◌, ◌-◌, ◌≤◌, ◌<◌}
use native.Mathlib.Omega.{arith}
use mathlib.Core.Path.{◌≡◌, refl, sym, ap}
use mathlib.Core.Bool.{Bool, true, false}
use mathlib.Core.List.{List}
use lib.ListN.{length, get_or}
use lib.Dec.{ltb, leb, eqb}
use borrow.Author.Tests.{lt-ltb, le-ltb, ltb-true, ltb-false, eqb-true}
use Rattle.wire.specs.Answer.{Ans, Parser}
use Rattle.wire.specs.Answer.Ans.{done, need, hickup, broken}
use Rattle.wire.specs.Parser.{asking, pick}
use Rattle.wire.specs.declared.Ended.{Ended}
use Rattle.wire.specs.declared.Range.{Range}
use Rattle.wire.specs.declared.Text.{Text}
use Rattle.strings.specs.Text.{before0, text_of, text_need, ended_of, ended_text, text}
use Rattle.strings.proofs.Strings.{before0_le, found, text_within}
use Rattle.strings.proofs.Spelled.{valued}
use Rattle.strings.proofs.Longest.{prefix_within}

-- ---- by the definition's words
abbrev number : Ended → ℕ
number Ended.Zero = 1
number Ended.Size = 2
number Ended.Invalid = 3

abbrev reason : Bool → Bool → Ended
reason short stopped = pick short Ended.Invalid (pick stopped Ended.Zero Ended.Size)

is_invalid_lem : (t u : Bool) → reason t u ≡ Ended.Invalid → t ≡ true
is_invalid_lem true u e = refl
is_invalid_lem false true e = absurd (omega (arith, ap number e))
is_invalid_lem false false e = absurd (omega (arith, ap number e))

is_zero : (t u : Bool) → reason t u ≡ Ended.Zero → (t ≡ false) × (u ≡ true)
is_zero true u e = absurd (omega (arith, ap number e))
is_zero false true e = (refl, refl)
is_zero false false e = absurd (omega (arith, ap number e))

is_size : (t u : Bool) → reason t u ≡ Ended.Size → (t ≡ false) × (u ≡ false)
is_size true u e = absurd (omega (arith, ap number e))
is_size false true e = absurd (omega (arith, ap number e))
is_size false false e = (refl, refl)

-- each both ways: from the reason to its condition, and back
module _ (n : ℕ) (s : List ℕ) (at : ℕ) where
  within : valued n s at ≤ before0 n s at
  unfolding text_of
  within = prefix_within (before0 n s at) s at

  -- Invalid: the value is shorter than the content; so where invalid bytes come first, that reason wins
  pub invalid_first : (ended_of n s at ≡ Ended.Invalid → valued n s at < before0 n s at) × (valued n s at < before0 n s at → ended_of n s at ≡ Ended.Invalid)
  unfolding ended_of
  invalid_first = (to, from)
    where
      to : ended_of n s at ≡ Ended.Invalid → valued n s at < before0 n s at
      to e = ltb-true _ _ (is_invalid_lem (ltb (valued n s at) (before0 n s at)) (ltb (before0 n s at) n) e)

      from : valued n s at < before0 n s at → ended_of n s at ≡ Ended.Invalid
      from h = rw (lt-ltb (valued n s at) (before0 n s at) h)

  -- Zero: the value is all of the content, and the content is shorter than the size
  pub zero_next : (ended_of n s at ≡ Ended.Zero → (valued n s at ≡ before0 n s at) × (before0 n s at < n)) × ((valued n s at ≡ before0 n s at) → (before0 n s at < n) → ended_of n s at ≡ Ended.Zero)
  unfolding ended_of
  zero_next = (to, from)
    where
      to : ended_of n s at ≡ Ended.Zero → (valued n s at ≡ before0 n s at) × (before0 n s at < n)
      to e =
          let q = is_zero (ltb (valued n s at) (before0 n s at)) (ltb (before0 n s at) n) e in
          (omega (arith, within, ltb-false (valued n s at) (before0 n s at) q.0), ltb-true (before0 n s at) n q.1)

      from : (valued n s at ≡ before0 n s at) → (before0 n s at < n) → ended_of n s at ≡ Ended.Zero
      from p h = rw (le-ltb (valued n s at) (before0 n s at) (omega (arith, p)), lt-ltb (before0 n s at) n h)

  -- Size: the value has all the bytes of the size
  pub size_else : (ended_of n s at ≡ Ended.Size → valued n s at ≡ n) × (valued n s at ≡ n → ended_of n s at ≡ Ended.Size)
  unfolding ended_of
  size_else = (to, from)
    where
      to : ended_of n s at ≡ Ended.Size → valued n s at ≡ n
      to e =
          let q = is_size (ltb (valued n s at) (before0 n s at)) (ltb (before0 n s at) n) e in
          omega (arith, text_within n s at, ltb-false (valued n s at) (before0 n s at) q.0, ltb-false (before0 n s at) n q.1)

      from : valued n s at ≡ n → ended_of n s at ≡ Ended.Size
      from p =
          let h : n ≤ before0 n s at = omega (arith, within, p) in
          rw (le-ltb (valued n s at) (before0 n s at) (omega (arith, before0_le n s at, p)), le-ltb (before0 n s at) n h)

-- ---- by the value's length and the byte behind it
-- the content has no zero byte
none_zero : (n i : ℕ) (s : List ℕ) (at : ℕ) → i < before0 n s at → get_or s (at + i) 0 ≡ 0 → ⊥
none_zero zero i s at h e = absurd (omega (arith, h))
none_zero (suc n) zero s at h e =
    let a : at + 0 ≡ at = omega arith in
    let z : before0 (suc n) s at ≡ 0 = found (suc n) s at (omega arith) (rw a at e) in
    absurd (omega (arith, h, z))
none_zero (suc n) (suc i) s at h e = by (eqb (get_or s at 0) 0) h (λ k. none_zero n i s (suc at) k (rw b at e))
  where
    b : at + suc i ≡ suc at + i
    b = omega arith

    by : (t : Bool) → suc i < pick t 0 (suc (before0 n s (suc at))) → (i < before0 n s (suc at) → ⊥) → ⊥
    by true k f = absurd (omega (arith, k))
    by false k f = f (omega (arith, k))

-- and one behind it where it is shorter than the size
zero_behind : (n : ℕ) (s : List ℕ) (at : ℕ) → before0 n s at < n → get_or s (at + before0 n s at) 0 ≡ 0
zero_behind zero s at h = absurd (omega (arith, h))
zero_behind (suc n) s at h = by (eqb (get_or s at 0) 0) refl h (zero_behind n s (suc at))
  where
    by : (t : Bool) → eqb (get_or s at 0) 0 ≡ t → pick t 0 (suc (before0 n s (suc at))) < suc n → (before0 n s (suc at) < n → get_or s (suc at + before0 n s (suc at)) 0 ≡ 0) → get_or s (at + pick t 0 (suc (before0 n s (suc at)))) 0 ≡ 0
    by true q k f = let a : at + 0 ≡ at = omega arith in rw a (eqb-true _ _ q)
    by false q k f = let a : at + suc (before0 n s (suc at)) ≡ suc at + before0 n s (suc at) = omega arith in rw a (f (omega (arith, k)))

-- v is the value's length
module _ (n : ℕ) (s : List ℕ) (at v : ℕ) (is : v ≡ valued n s at) where
  pub ended_size : v ≡ n → Ended.Size ≡ ended_of n s at
  ended_size e = sym ((size_else n s at).1 (omega (arith, is)))

  pub ended_zero : (v ≡ n → ⊥) → get_or s (at + v) 0 ≡ 0 → Ended.Zero ≡ ended_of n s at
  ended_zero d z =
      let all : before0 n s at ≤ v = by (ltb v (before0 n s at)) refl in
      let p : valued n s at ≡ before0 n s at = omega (arith, is, all, within n s at) in
      sym ((zero_next n s at).1 p (omega (arith, is, p, text_within n s at, d)))
    where
      by : (t : Bool) → ltb v (before0 n s at) ≡ t → before0 n s at ≤ v
      by true q = absurd (none_zero n v s at (ltb-true v (before0 n s at) q) z)
      by false q = ltb-false v (before0 n s at) q

  pub ended_invalid : (v ≡ n → ⊥) → (get_or s (at + v) 0 ≡ 0 → ⊥) → Ended.Invalid ≡ ended_of n s at
  ended_invalid d z = by (ltb v (before0 n s at)) refl
    where
      by : (t : Bool) → ltb v (before0 n s at) ≡ t → Ended.Invalid ≡ ended_of n s at
      by true q = sym ((invalid_first n s at).1 (omega (arith, is, ltb-true v (before0 n s at) q)))
      by false q =
          let c : v ≡ before0 n s at = omega (arith, is, within n s at, ltb-false v (before0 n s at) q) in
          absurd (z (rw c (zero_behind n s at (omega (arith, c, is, text_within n s at, d)))))

  -- it is no longer than the size
  pub no_longer : v ≤ n
  no_longer = omega (arith, is, text_within n s at)

pub ruleset reasons = (ended_size, ended_zero, ended_invalid)

-- the other way: what the reason tells of the byte behind the value
module _ (n : ℕ) (s : List ℕ) (at : ℕ) where
  pub after_zero : ended_of n s at ≡ Ended.Zero → (valued n s at < n) × (get_or s (at + valued n s at) 0 ≡ 0)
  after_zero e =
      let p = (zero_next n s at).0 e in
      (omega (arith, p.0, p.1), rw p.0 (zero_behind n s at p.1))

  pub after_invalid : ended_of n s at ≡ Ended.Invalid → (valued n s at < n) × (get_or s (at + valued n s at) 0 ≡ 0 → ⊥)
  after_invalid e =
      let p = (invalid_first n s at).0 e in
      (omega (arith, p, before0_le n s at), none_zero n (valued n s at) s at p)

-- ---- as before: the rule with its reason dropped is the rule of ranges that stood here before
abbrev pub old_text : ℕ → Parser Range
old_text n = asking n (text_need n) (λ s at. done (text_of n s at) (at + n))

abbrev pub placed : Ans Text → Ans Range
placed (done v n) = done v.place n
placed (need m) = need m
placed (hickup r) = hickup r
placed broken = broken

pub as_before : (n : ℕ) (s : List ℕ) (at : ℕ) → placed (text n s at) ≡ old_text n s at
unfolding text asking ended_text
as_before n s at = by (leb n (length s - at))
  where
    by : (t : Bool) → placed (pick t (done (ended_text n s at) (at + n)) (need (text_need n s at))) ≡ pick t (done (text_of n s at) (at + n)) (need (text_need n s at))
    by true = refl
    by false = refl
