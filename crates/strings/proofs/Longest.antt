-- `valid_up_to_of` is what its name says: that many bytes are valid UTF-8, and no longer prefix is.
use Prim.Native.Nat.{ℕ, zero, suc, ◌+◌, ◌-◌, ◌≤◌, ◌<◌, zero-le}
use native.Mathlib.Omega.{arith}
use native.Mathlib.Nat.{not-suc-le-zero}
use mathlib.Core.Path.{◌≡◌, refl, sym}
use mathlib.Core.Bool.{Bool, true, false, ◌&&◌}
use mathlib.Core.List.{List, [], ◌∷◌}
use lib.ListN.{length, get_or}
use lib.Dec.{leb}
use borrow.Author.Tests.{le-leb, ne_eqb}
use Rattle.wire.specs.Parser.{pick}
use Rattle.strings.specs.Utf8.{Span, Row, table, inside, fits, formed, among, sequence, onward, up_to, valid_up_to_of, ValidUtf8}
use Rattle.strings.specs.Utf8.ValidUtf8.{empty, more}
use Rattle.strings.proofs.Utf8.{sequence_le, valid_step}

-- a sequence is the same one among more bytes, and among fewer, as long as they hold it
formed_between : (rest : List Span) (n k : ℕ) (s : List ℕ) (at w : ℕ) → formed rest n s at ≡ w → 0 < w → w ≤ k → formed rest k s at ≡ w
unfolding formed
formed_between rest n k s at w e p h = by (leb (suc (length rest)) n) (fits rest s at 1) e
  where
    by : (t f : Bool) → pick (t && f) (suc (length rest)) 0 ≡ w → pick (leb (suc (length rest)) k && f) (suc (length rest)) 0 ≡ w
    by true true g = rw (le-leb (suc (length rest)) k (omega arith)) g
    by true false g = absurd (not-suc-le-zero (rw (← g) at p))
    by false f g = absurd (not-suc-le-zero (rw (← g) at p))

among_between : (rs : List Row) (n k : ℕ) (s : List ℕ) (at w : ℕ) → among rs n s at ≡ w → 0 < w → w ≤ k → among rs k s at ≡ w
unfolding among
among_between [] n k s at w e p h = e
among_between (r ∷ rs) n k s at w e p h =
    by (inside r.lead (get_or s at 0)) (λ g. formed_between r.rest n k s at w g p h) (λ g. among_between rs n k s at w g p h) e
  where
    by : (t : Bool) {a b c d : ℕ} → (a ≡ w → c ≡ w) → (b ≡ w → d ≡ w) → pick t a b ≡ w → pick t c d ≡ w
    by true f g x = f x
    by false f g x = g x

pub between : (n k : ℕ) (s : List ℕ) (at w : ℕ) → sequence n s at ≡ w → 0 < w → w ≤ k → sequence k s at ≡ w
unfolding sequence
between n k s at w e p h = among_between table n k s at w e p h

up_to_valid : (m n : ℕ) (s : List ℕ) (at : ℕ) → ValidUtf8 s at (up_to m n s at)
unfolding up_to
up_to_valid zero n s at = empty
up_to_valid (suc m) n s at = by (λ w. up_to_valid m (n - w) s (at + w)) (sequence n s at) refl
  where
    by : ((w : ℕ) → ValidUtf8 s (at + w) (up_to m (n - w) s (at + w))) → (w : ℕ) → sequence n s at ≡ w → ValidUtf8 s at (onward (λ w. up_to m (n - w) s (at + w)) w)
    by v zero e = empty
    by v (suc w) e =
        rw (ne_eqb (suc w) 0 (λ z. let y : 1 ≤ 0 = omega arith in not-suc-le-zero y))
        (more (suc w) (omega arith) (between n (suc w) s at (suc w) e (omega arith) (omega arith)) (v (suc w)))

up_to_within : (m n : ℕ) (s : List ℕ) (at : ℕ) → up_to m n s at ≤ n
unfolding up_to
up_to_within zero n s at = zero-le
up_to_within (suc m) n s at = by (sequence n s at) (sequence_le n s at) (λ w. up_to_within m (n - w) s (at + w))
  where
    by : (w : ℕ) → w ≤ n → ((w : ℕ) → up_to m (n - w) s (at + w) ≤ n - w) → onward (λ w. up_to m (n - w) s (at + w)) w ≤ n
    by zero h v = zero-le
    by (suc w) h v =
        rw (ne_eqb (suc w) 0 (λ z. let y : 1 ≤ 0 = omega arith in not-suc-le-zero y))
        (omega (arith, v (suc w)))

-- the prefix is one of the n bytes
pub prefix_within : (n : ℕ) (s : List ℕ) (at : ℕ) → valid_up_to_of n s at ≤ n
unfolding valid_up_to_of
prefix_within n s at = up_to_within n n s at

-- it is valid
pub prefix_valid : (n : ℕ) (s : List ℕ) (at : ℕ) → ValidUtf8 s at (valid_up_to_of n s at)
unfolding valid_up_to_of
prefix_valid n s at = up_to_valid n n s at

-- and it is the longest
longest_by : (s : List ℕ) (n : ℕ) {m at : ℕ} → m ≤ n → ValidUtf8 s at m → m ≤ valid_up_to_of n s at
longest_by s n h empty = zero-le
longest_by s n {at = at} h (more {n = k} w p e v) =
    let q : sequence n s at ≡ w = between w n s at w e p (omega arith) in
    let r : k ≤ valid_up_to_of (n - w) s (at + w) = longest_by s (n - w) (omega arith) v in
    omega (arith, valid_step n s at w (omega arith) (sym q) p)

pub prefix_longest : {m at : ℕ} (n : ℕ) (s : List ℕ) → m ≤ n → ValidUtf8 s at m → m ≤ valid_up_to_of n s at
prefix_longest n s h v = longest_by s n h v
