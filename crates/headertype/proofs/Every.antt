-- A test that computes at every number below a bound, and what it shows of each.
-- Assumes nothing.
use Prim.Native.Nat.{ℕ, zero, suc, ◌<◌}
use native.Mathlib.Omega.{arith}
use native.Mathlib.Nat.{not-suc-le-zero}
use mathlib.Core.Path.{◌≡◌, refl, sym, ap, ◌∙◌}
use mathlib.Core.Bool.{Bool, true, false}
use lib.Dec.{eqb}
use borrow.Author.Tests.{eqb-true, eqb-false}
use Rattle.headertype.specs.Bits.{both}

abbrev pub every : (ℕ → Bool) → ℕ → Bool
every f zero = true
every f (suc n) = both (f n) (every f n)

pub both_left : (a b : Bool) → both a b ≡ true → a ≡ true
both_left true b e = refl
both_left false b e = e

pub both_right : (a b : Bool) → both a b ≡ true → b ≡ true
both_right true b e = e
both_right false true e = refl
both_right false false e = e

pub every_at : (f : ℕ → Bool) (n : ℕ) → every f n ≡ true → (k : ℕ) → k < n → f k ≡ true
every_at f zero t k h = absurd (not-suc-le-zero h)
every_at f (suc n) t k h = go (eqb k n) refl (every_at f n (both_right (f n) (every f n) t) k)
  where
    go : (b : Bool) → eqb k n ≡ b → (k < n → f k ≡ true) → f k ≡ true
    go true e less = ap f (eqb-true k n e) ∙ both_left (f n) (every f n) t
    go false e less = let d : k ≡ n → ⊥ = eqb-false k n e in less (omega arith)

-- two numbers, and two tests, that are the same below a bound
pub numbers : (f g : ℕ → ℕ) (n : ℕ) → every (λ k. eqb (f k) (g k)) n ≡ true → (k : ℕ) → k < n → f k ≡ g k
numbers f g n t k h = eqb-true (f k) (g k) (every_at (λ k. eqb (f k) (g k)) n t k h)

abbrev pub same : Bool → Bool → Bool
same true b = b
same false true = false
same false false = true

pub same_is : (a b : Bool) → same a b ≡ true → a ≡ b
same_is true true e = refl
same_is true false e = sym e
same_is false true e = e
same_is false false e = refl

pub tests : (f g : ℕ → Bool) (n : ℕ) → every (λ k. same (f k) (g k)) n ≡ true → (k : ℕ) → k < n → f k ≡ g k
tests f g n t k h = same_is (f k) (g k) (every_at (λ k. same (f k) (g k)) n t k h)

-- a test of two numbers
pub every_two : (f : ℕ → ℕ → Bool) (m n : ℕ) → every (λ j. every (f j) n) m ≡ true → (j k : ℕ) → j < m → k < n → f j k ≡ true
every_two f m n t j k hj hk = every_at (f j) n (every_at (λ j. every (f j) n) m t j hj) k hk
