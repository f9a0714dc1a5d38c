-- The laws of a float's pattern, once for both formats.
--     is-nan, is_number      what the code's test says of the pattern
--     to-the-bit             what is kept of a pattern gives the pattern back, whichever it is
--     unlike-itself          only the NaN differs from itself
-- Assumes nothing.
use Prim.Native.Nat.{ℕ, ◌+◌, ◌*◌, ◌/◌, ◌%◌, ◌≤◌, ◌<◌}
use mathlib.Core.Path.{◌≡◌, refl, sym, ap, ◌∙◌, subst}
use mathlib.Core.Bool.{Bool, true, false, not, ◌&&◌, ◌||◌, beq}
use lib.Dec.{T, eqb}
use lib.Ieee.{Float, nan, inf, fin, Format, ones, hid, top, up, down, eq, ne, is_nan, nan_bits, of_bits, to_bits}
use lib.Ieee.Bits.{nan_bits_is, nan_bits_above, to_bits-of_bits}
use borrow.Author.Tests.{lt-ltb, le-ltb, eq-eqb}
use Rattle.wire.specs.Parser.{pick}
use Rattle.reals.specs.Real.{real_of}

module _ (f : Format) (b : ℕ) where
  pub is_nan_lem : ones f * hid f < b % top f → nan_bits f b ≡ true
  is_nan_lem h = nan_bits_above f b ∙ lt-ltb _ _ h

  pub is_number : b % top f ≤ ones f * hid f → nan_bits f b ≡ false
  is_number h = nan_bits_above f b ∙ le-ltb _ _ h

  no_nan : nan_bits f b ≡ false → T (not (is_nan (of_bits f b)))
  no_nan h = rw (sym (nan_bits_is f b) ∙ h) tt

  -- every NaN pattern is the one NaN
  pub one_nan : nan_bits f b ≡ true → of_bits f b ≡ nan
  unfolding is_nan
  one_nan h = only (of_bits f b) (sym (nan_bits_is f b) ∙ h)
    where
      only : (v : Float) → is_nan v ≡ true → v ≡ nan
      only nan e = refl
      only (inf s) e = absurd (subst T (sym e) tt)
      only (fin s m x) e = absurd (subst T (sym e) tt)

module _ {X : Type 0} (f : Format) (number : Float → X) (pattern : ℕ → X) (b : ℕ) where
  -- out is what reads a pattern off what was kept
  pub to_the_bit : (out : X → ℕ) → ((x : Float) → out (number x) ≡ to_bits f x) → ((n : ℕ) → out (pattern n) ≡ n)
      → b < 2 * top f → out (real_of f number pattern b) ≡ b
  to_the_bit out of_number of-pattern l = go (nan_bits f b) refl
    where
      go : (t : Bool) → nan_bits f b ≡ t → out (pick t (pattern b) (number (of_bits f b))) ≡ b
      go true e = of-pattern b
      go false e = of_number (of_bits f b) ∙ to_bits-of_bits f b l (no_nan f b e)

-- what is kept may be carried on into another type
pub through : {X Y : Type 0} (h : X → Y) (f : Format) (number : Float → X) (pattern : ℕ → X) (b : ℕ)
    → h (real_of f number pattern b) ≡ real_of f (λ x. h (number x)) (λ n. h (pattern n)) b
through h f number pattern b = go (nan_bits f b)
  where
    go : (t : Bool) → h (pick t (pattern b) (number (of_bits f b))) ≡ pick t (h (pattern b)) (h (number (of_bits f b)))
    go true = refl
    go false = refl

-- ---- the test `x != x`
unlike : (s : Bool) (a : ℕ) → not (eqb a a && (beq s s || eqb a 0)) ≡ false
unlike true a = rw (eq-eqb a a refl)
unlike false a = rw (eq-eqb a a refl)

pub unlike_itself : (x : Float) → ne x x ≡ true → x ≡ nan
unfolding ne eq
unlike_itself nan e = refl
unlike_itself (inf true) e = absurd (subst T (sym e) tt)
unlike_itself (inf false) e = absurd (subst T (sym e) tt)
unlike_itself (fin s m x) e = absurd (subst T (sym e ∙ unlike s (m * up x * down x)) tt)

pub like_itself : (x : Float) → ne x x ≡ false → T (not (is_nan x))
unfolding ne eq is_nan
like_itself nan e = absurd (subst T e tt)
like_itself (inf s) e = tt
like_itself (fin s m x) e = tt

-- the pattern that is written for a float in a local: `out` reads the pattern off what was kept
module _ {X : Type 0} (f : Format) (out : X → ℕ) (number : Float → X) (of_number : (x : Float) → out (number x) ≡ to_bits f x) (r : X) (x : Float) (e : r ≡ number x) where
  pub nan_written : ne x x ≡ true → ones f * hid f + hid f / 2 ≡ out r
  unfolding to_bits
  nan_written h = sym (ap out e ∙ of_number x ∙ ap (to_bits f) (unlike_itself x h))

  pub number_written : to_bits f x ≡ out r
  number_written = sym (ap out e ∙ of_number x)
