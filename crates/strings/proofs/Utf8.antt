-- UTF-8: what the functions need of the table, and the laws of the longest valid prefix.
use Prim.Native.Nat.{ℕ, zero, suc, ◌+◌, ◌-◌, ◌≤◌, ◌<◌, zero-le}
use native.Mathlib.Omega.{arith}
use native.Mathlib.Nat.{add-zero, zero-add, sub-zero, not-suc-le-zero}
use mathlib.Core.Path.{◌≡◌, refl, sym, ap, ap₂, ◌∙◌}
use mathlib.Core.Bool.{Bool, true, false, ◌&&◌}
use mathlib.Core.List.{List, [], ◌∷◌, ◌++◌}
use lib.ListN.{length, get_or, get_or-append}
use lib.Dec.{leb, eqb}
use borrow.Author.Tests.{le-leb, lt-leb, ne_eqb, leb-true}
use Rattle.wire.specs.Parser.{pick}
use Rattle.strings.specs.Utf8.{Span, span, tail, inside, Row, table, fits, formed, among, sequence, onward, up_to, valid_up_to_of, least}

-- ---- the bytes behind a lead byte
module _ (rest : List Span) (n : ℕ) (s : List ℕ) (at : ℕ) where
  pub too_few : n < suc (length rest) → 0 ≡ formed rest n s at
  unfolding formed
  too_few h = rw (lt-leb (suc (length rest)) n h)

  pub all_fit : suc (length rest) ≤ n → true ≡ fits rest s at 1 → suc (length rest) ≡ formed rest n s at
  unfolding formed
  all_fit h e = rw (le-leb (suc (length rest)) n h, sym e)

  pub one_unfit : suc (length rest) ≤ n → false ≡ fits rest s at 1 → 0 ≡ formed rest n s at
  unfolding formed
  one_unfit h e = rw (le-leb (suc (length rest)) n h, sym e)

-- b is what `stands` said of the first span
module _ (s : List ℕ) (at k : ℕ) (r : Span) (rs : List Span) (b : Bool) (e : b ≡ inside r (get_or s (at + k) 0)) where
  pub fit_step : (x : Bool) → b ≡ true → x ≡ fits rs s at (suc k) → x ≡ fits (r ∷ rs) s at k
  fit_step x t f = rw (sym e ∙ t) f

  pub fit_not : b ≡ false → false ≡ fits (r ∷ rs) s at k
  fit_not t = rw (sym e ∙ t)

pub fit_end : (s : List ℕ) (at k : ℕ) → true ≡ fits [] s at k
fit_end s at k = refl

-- ---- the rows, at the code's bounds: b is the lead byte, x the code's answer
module _ (n : ℕ) (s : List ℕ) (at x : ℕ) (r : Row) (rs : List Row) where
  hit : r.lead.from ≤ get_or s at 0 → get_or s at 0 ≤ r.lead.to → x ≡ formed r.rest n s at → x ≡ among (r ∷ rs) n s at
  unfolding among
  hit h k f = rw (le-leb r.lead.from (get_or s at 0) h, le-leb (get_or s at 0) r.lead.to k) f

  above : r.lead.to < get_or s at 0 → x ≡ among rs n s at → x ≡ among (r ∷ rs) n s at
  unfolding among
  above h f = by (leb r.lead.from (get_or s at 0))
    where
      by : (t : Bool) → x ≡ pick (t && leb (get_or s at 0) r.lead.to) (formed r.rest n s at) (among rs n s at)
      by true = rw (lt-leb (get_or s at 0) r.lead.to h) f
      by false = f

  below : get_or s at 0 < r.lead.from → x ≡ among rs n s at → x ≡ among (r ∷ rs) n s at
  unfolding among
  below h f = rw (lt-leb r.lead.from (get_or s at 0) h) f

none_left : (n : ℕ) (s : List ℕ) (at x : ℕ) → x ≡ 0 → x ≡ among [] n s at
unfolding among
none_left n s at x e = e

-- a row is found by its lead bytes; between the first two rows and behind the last there is none
module _ (n : ℕ) (s : List ℕ) (at x : ℕ) where
  pub first_row : get_or s at 0 ≤ 0x7F → x ≡ formed [] n s at → x ≡ sequence n s at
  unfolding sequence
  first_row k f = hit n s at x _ _ (omega arith) (omega arith) f

  pub second_row : 0xC1 < get_or s at 0 → get_or s at 0 ≤ 0xDF → x ≡ formed (tail ∷ []) n s at → x ≡ sequence n s at
  unfolding sequence
  second_row h k f = above n s at x _ _ (omega arith) (hit n s at x _ _ (omega arith) (omega arith) f)

  pub third_row : 0xDF < get_or s at 0 → get_or s at 0 ≤ 0xE0 → x ≡ formed (span 0xA0 0xBF ∷ tail ∷ []) n s at → x ≡ sequence n s at
  unfolding sequence
  third_row h k f = above n s at x _ _ (omega arith) (above n s at x _ _ (omega arith) (hit n s at x _ _ (omega arith) (omega arith) f))

  pub fourth_row : 0xE0 < get_or s at 0 → get_or s at 0 ≤ 0xEC → x ≡ formed (tail ∷ tail ∷ []) n s at → x ≡ sequence n s at
  unfolding sequence
  fourth_row h k f = above n s at x _ _ (omega arith) (above n s at x _ _ (omega arith) (above n s at x _ _ (omega arith) (hit n s at x _ _ (omega arith) (omega arith) f)))

  pub fifth_row : 0xEC < get_or s at 0 → get_or s at 0 ≤ 0xED → x ≡ formed (span 0x80 0x9F ∷ tail ∷ []) n s at → x ≡ sequence n s at
  unfolding sequence
  fifth_row h k f = above n s at x _ _ (omega arith) (above n s at x _ _ (omega arith) (above n s at x _ _ (omega arith) (above n s at x _ _ (omega arith) (hit n s at x _ _ (omega arith) (omega arith) f))))

  pub sixth_row : 0xED < get_or s at 0 → get_or s at 0 ≤ 0xEF → x ≡ formed (tail ∷ tail ∷ []) n s at → x ≡ sequence n s at
  unfolding sequence
  sixth_row h k f = above n s at x _ _ (omega arith) (above n s at x _ _ (omega arith) (above n s at x _ _ (omega arith) (above n s at x _ _ (omega arith) (above n s at x _ _ (omega arith) (hit n s at x _ _ (omega arith) (omega arith) f)))))

  pub seventh_row : 0xEF < get_or s at 0 → get_or s at 0 ≤ 0xF0 → x ≡ formed (span 0x90 0xBF ∷ tail ∷ tail ∷ []) n s at → x ≡ sequence n s at
  unfolding sequence
  seventh_row h k f = above n s at x _ _ (omega arith) (above n s at x _ _ (omega arith) (above n s at x _ _ (omega arith) (above n s at x _ _ (omega arith) (above n s at x _ _ (omega arith) (above n s at x _ _ (omega arith) (hit n s at x _ _ (omega arith) (omega arith) f))))))

  pub eighth_row : 0xF0 < get_or s at 0 → get_or s at 0 ≤ 0xF3 → x ≡ formed (tail ∷ tail ∷ tail ∷ []) n s at → x ≡ sequence n s at
  unfolding sequence
  eighth_row h k f = above n s at x _ _ (omega arith) (above n s at x _ _ (omega arith) (above n s at x _ _ (omega arith) (above n s at x _ _ (omega arith) (above n s at x _ _ (omega arith) (above n s at x _ _ (omega arith) (above n s at x _ _ (omega arith) (hit n s at x _ _ (omega arith) (omega arith) f)))))))

  pub ninth_row : 0xF3 < get_or s at 0 → get_or s at 0 ≤ 0xF4 → x ≡ formed (span 0x80 0x8F ∷ tail ∷ tail ∷ []) n s at → x ≡ sequence n s at
  unfolding sequence
  ninth_row h k f = above n s at x _ _ (omega arith) (above n s at x _ _ (omega arith) (above n s at x _ _ (omega arith) (above n s at x _ _ (omega arith) (above n s at x _ _ (omega arith) (above n s at x _ _ (omega arith) (above n s at x _ _ (omega arith) (above n s at x _ _ (omega arith) (hit n s at x _ _ (omega arith) (omega arith) f))))))))

  pub no_row : 0x7F < get_or s at 0 → get_or s at 0 ≤ 0xC1 → x ≡ 0 → x ≡ sequence n s at
  unfolding sequence
  no_row h k end = above n s at x _ _ (omega arith) (below n s at x _ _ (omega arith) (below n s at x _ _ (omega arith) (below n s at x _ _ (omega arith) (below n s at x _ _ (omega arith) (below n s at x _ _ (omega arith) (below n s at x _ _ (omega arith) (below n s at x _ _ (omega arith) (below n s at x _ _ (omega arith) (none_left n s at x end)))))))))

  pub past_rows : 0xF4 < get_or s at 0 → x ≡ 0 → x ≡ sequence n s at
  unfolding sequence
  past_rows h end = above n s at x _ _ (omega arith) (above n s at x _ _ (omega arith) (above n s at x _ _ (omega arith) (above n s at x _ _ (omega arith) (above n s at x _ _ (omega arith) (above n s at x _ _ (omega arith) (above n s at x _ _ (omega arith) (above n s at x _ _ (omega arith) (above n s at x _ _ (omega arith) (none_left n s at x end)))))))))

-- a byte up to 7F is a sequence by itself
pub one_letter : (n : ℕ) (s : List ℕ) (at : ℕ) → 0 < n → get_or s at 0 ≤ 0x7F → 1 ≡ sequence n s at
one_letter n s at h b = first_row n s at 1 b (all_fit [] n s at h refl)

-- ---- a sequence is no longer than the bytes
formed_le : (rest : List Span) (n : ℕ) (s : List ℕ) (at : ℕ) → formed rest n s at ≤ n
unfolding formed
formed_le rest n s at = by (leb (suc (length rest)) n) refl (fits rest s at 1)
  where
    by : (t : Bool) → leb (suc (length rest)) n ≡ t → (f : Bool) → pick (t && f) (suc (length rest)) 0 ≤ n
    by true e true = leb-true _ _ e
    by true e false = zero-le
    by false e f = zero-le

among_le : (rs : List Row) (n : ℕ) (s : List ℕ) (at : ℕ) → among rs n s at ≤ n
unfolding among
among_le [] n s at = zero-le
among_le (r ∷ rs) n s at = by (inside r.lead (get_or s at 0)) (formed_le r.rest n s at) (among_le rs n s at)
  where
    by : (t : Bool) {a b : ℕ} → a ≤ n → b ≤ n → pick t a b ≤ n
    by true h k = h
    by false h k = k

pub sequence_le : (n : ℕ) (s : List ℕ) (at : ℕ) → sequence n s at ≤ n
unfolding sequence
sequence_le n s at = among_le table n s at

-- ---- how many sequences are asked for does not matter, once there is one for each byte
onward_same : (f g : ℕ → ℕ) (w : ℕ) → (0 < w → f w ≡ g w) → onward f w ≡ onward g w
onward_same f g zero h = refl
onward_same f g (suc w) h = ap (λ (k : ℕ). pick (eqb (suc w) 0) 0 (suc w + k)) (h (omega arith))

up_to_none : (m : ℕ) (s : List ℕ) (at : ℕ) → up_to m 0 s at ≡ 0
unfolding up_to
up_to_none zero s at = refl
up_to_none (suc m) s at =
    let z : sequence 0 s at ≡ 0 = omega (arith, sequence_le 0 s at) in
    rw z

enough : (b m k n : ℕ) (s : List ℕ) (at : ℕ) → n ≤ b → n ≤ m → n ≤ k → up_to m n s at ≡ up_to k n s at
unfolding up_to
enough zero m k n s at h i j =
    let z : n ≡ 0 = omega arith in
    rw z (up_to_none m s at ∙ sym (up_to_none k s at))
enough (suc b) zero k n s at h i j =
    let z : n ≡ 0 = omega arith in
    rw z (sym (up_to_none k s at))
enough (suc b) (suc m) zero n s at h i j =
    let z : n ≡ 0 = omega arith in
    rw z (up_to_none (suc m) s at)
enough (suc b) (suc m) (suc k) n s at h i j =
    onward_same (λ w. up_to m (n - w) s (at + w)) (λ w. up_to k (n - w) s (at + w)) (sequence n s at)
    (λ p. let l : sequence n s at ≤ n = sequence_le n s at in
    enough b m k (n - sequence n s at) s (at + sequence n s at) (omega arith) (omega arith) (omega arith))

-- ---- one sequence more
pub valid_step : (n : ℕ) (s : List ℕ) (at w : ℕ) → 0 < n → w ≡ sequence n s at → 0 < w → valid_up_to_of n s at ≡ w + valid_up_to_of (n - w) s (at + w)
unfolding valid_up_to_of up_to
valid_step zero s at w h e p = absurd (not-suc-le-zero h)
valid_step (suc n) s at w h e p =
    let l : w ≤ suc n = rw e (sequence_le (suc n) s at) in
    rw (sym e) (
    rw (ne_eqb w 0 (λ z. not-suc-le-zero (rw z at p)))
    (ap (λ (k : ℕ). w + k) (enough n n (suc n - w) (suc n - w) s (at + w) (omega arith) (omega arith) (omega arith))))

pub valid_stop : (n : ℕ) (s : List ℕ) (at : ℕ) → 0 ≡ sequence n s at → valid_up_to_of n s at ≡ 0
unfolding valid_up_to_of up_to
valid_stop zero s at e = refl
valid_stop (suc n) s at e = rw (sym e)

-- ---- the loop: k bytes of n are passed, all of them in well-formed sequences
abbrev pub Valid : List ℕ → ℕ → ℕ → ℕ → Type 0
Valid s at n k = (k ≤ n) × (valid_up_to_of n s at ≡ k + valid_up_to_of (n - k) s (at + k))

module _ (s : List ℕ) (at n : ℕ) where
  pub valid_none : Valid s at n 0
  valid_none = (zero-le, rw (sub-zero, add-zero, zero-add))

  pub valid_more : (k w : ℕ) → k < n → w ≡ sequence (n - k) s (at + k) → (w ≡ 0 → ⊥) → Valid s at n k → Valid s at n (k + w)
  valid_more k w l e z h =
      let p : 0 < w = omega (arith, z) in
      let a : at + k + w ≡ at + (k + w) = omega arith in
      let b : n - k - w ≡ n - (k + w) = omega arith in
      let i : w ≤ n - k = rw e (sequence_le (n - k) s (at + k)) in
      let q : valid_up_to_of (n - k) s (at + k) ≡ w + valid_up_to_of (n - (k + w)) s (at + (k + w)) = valid_step (n - k) s (at + k) w (omega arith) e p ∙ ap (λ (j : ℕ). w + j) (ap₂ (λ (i j : ℕ). valid_up_to_of i s j) b a) in
      (omega arith, omega (arith, h.1, q))

  -- m is n by another name
  pub valid_found : (k w m : ℕ) → k < n → w ≡ sequence (n - k) s (at + k) → w ≡ 0 → n ≡ m → Valid s at n k → k ≡ valid_up_to_of m s at
  valid_found k w m l e z q h = rw (← q) (omega (arith, h.1, valid_stop (n - k) s (at + k) (sym z ∙ e)))

  pub valid_all : (k m : ℕ) → n ≤ k → n ≡ m → Valid s at n k → k ≡ valid_up_to_of m s at
  unfolding valid_up_to_of up_to
  valid_all k m l q h =
      let z : n - k ≡ 0 = omega arith in
      let v : valid_up_to_of (n - k) s (at + k) ≡ 0 = rw z in
      let e : k ≡ valid_up_to_of n s at = omega (arith, h.1, v) in
      rw q at e

-- w is a sequence's length
pub word_le : (n w : ℕ) (s : List ℕ) (at : ℕ) → w ≡ sequence n s at → w ≤ n
word_le n w s at e = rw e (sequence_le n s at)

-- ---- only the n bytes are looked at
module _ (s t : List ℕ) where
  fits_same : (rs : List Span) (at k : ℕ) → at + k + length rs ≤ length s → fits rs (s ++ t) at k ≡ fits rs s at k
  fits_same [] at k h = refl
  fits_same (r ∷ rs) at k h =
      rw (get_or-append s t 0 (at + k) (omega arith), fits_same rs at (suc k) (omega arith))

  formed_same : (rest : List Span) (n at : ℕ) → at + n ≤ length s → formed rest n (s ++ t) at ≡ formed rest n s at
  unfolding formed
  formed_same rest n at h = by (leb (suc (length rest)) n) refl
    where
      by : (b : Bool) → leb (suc (length rest)) n ≡ b → pick (b && fits rest (s ++ t) at 1) (suc (length rest)) 0 ≡ pick (b && fits rest s at 1) (suc (length rest)) 0
      by true e =
          let l : suc (length rest) ≤ n = leb-true _ _ e in
          ap (λ (f : Bool). pick f (suc (length rest)) 0) (fits_same rest at 1 (omega arith))
      by false e = refl

  among_same : (rs : List Row) (n at : ℕ) → 0 < n → at + n ≤ length s → among rs n (s ++ t) at ≡ among rs n s at
  unfolding among
  among_same [] n at p h = refl
  among_same (r ∷ rs) n at p h =
      rw (get_or-append s t 0 at (omega arith), formed_same r.rest n at h, among_same rs n at p h)

  some_same : (n at : ℕ) → 0 < n → at + n ≤ length s → sequence n (s ++ t) at ≡ sequence n s at
  unfolding sequence
  some_same n at p h = among_same table n at p h

  sequence_same : (n at : ℕ) → at + n ≤ length s → sequence n (s ++ t) at ≡ sequence n s at
  sequence_same zero at h = omega (arith, sequence_le 0 (s ++ t) at, sequence_le 0 s at)
  sequence_same (suc n) at h = some_same (suc n) at (omega arith) h

  up_to_same : (m n at : ℕ) → at + n ≤ length s → up_to m n (s ++ t) at ≡ up_to m n s at
  unfolding up_to
  up_to_same zero n at h = refl
  up_to_same (suc m) n at h =
      let l : sequence n s at ≤ n = sequence_le n s at in
      ap (onward (λ w. up_to m (n - w) (s ++ t) (at + w))) (sequence_same n at h)
      ∙ onward_same (λ w. up_to m (n - w) (s ++ t) (at + w)) (λ w. up_to m (n - w) s (at + w)) (sequence n s at)
      (λ p. up_to_same m (n - sequence n s at) (at + sequence n s at) (omega arith))

pub valid_up_to_same : (n : ℕ) (s t : List ℕ) (at : ℕ) → at + n ≤ length s → valid_up_to_of n (s ++ t) at ≡ valid_up_to_of n s at
unfolding valid_up_to_of
valid_up_to_same n s t at h = up_to_same s t n n at h

pub least_le : (a b : ℕ) → least a b ≤ b
least_le a b = by (leb a b) refl
  where
    by : (t : Bool) → leb a b ≡ t → pick t a b ≤ b
    by true e = leb-true a b e
    by false e = omega arith

pub ruleset utf8 = (too_few, all_fit, one_unfit, fit_step, fit_not, fit_end, first_row, second_row, third_row, fourth_row, fifth_row, sixth_row, seventh_row, eighth_row, ninth_row, no_row, past_rows)
