-- A signed number's bits: the two arms of `signed_bits`, and a number that is handed on. Assumes nothing.
use Prim.Native.Nat.{ℕ, suc, ◌-◌, ◌^◌, ◌<◌}
use native.Mathlib.Omega.{arith}
use mathlib.Core.Bool.{true, false, true≢false}
use mathlib.Core.Path.{◌≡◌, refl, sym, ap, ◌∙◌}
use lib.Dec.{T, leb-zero}
use lib.IntN.{ℤ, pos, negsuc, nat_abs, ◌-ℤ◌}
use lib.Signed.{le_z, non_neg, mag}
use mir.Syntax.{Width, w64}
use mir.Val.{Fits, SFits, to_z, of_z, hbits}
use mir.Facts.{to_z_pos, to_z-of_z}
use borrow.Author.Tests.{le-ltb}
use Rattle.numbers.specs.Arguments.{signed_bits_of}

beyond : (n : ℕ) → negsuc 0 -ℤ negsuc n ≡ pos n
beyond n =
    let e : suc n - 1 ≡ n = omega arith in
    rw (le-ltb (suc n) 1 (omega arith)) (ap pos e)

pub upper : (y : ℤ) → SFits w64 y → le_z (pos 0) y ≡ true → T (non_neg y) × Fits w64 (nat_abs y)
upper (pos n) h q = (tt, record { fits = omega (arith, h.sfits) })
upper (negsuc n) h q = absurd (true≢false (sym q))

pub upper_is : (y : ℤ) → le_z (pos 0) y ≡ true → nat_abs y ≡ signed_bits_of y
upper_is (pos n) q = refl
upper_is (negsuc n) q = absurd (true≢false (sym q))

pub lower_fits : (y : ℤ) → SFits w64 y → le_z (pos 0) y ≡ false → SFits w64 (negsuc 0 -ℤ y)
lower_fits (pos n) h q = absurd (true≢false (sym (leb-zero n) ∙ q))
lower_fits (negsuc n) h q = rw (beyond n) (record { sfits = h.sfits })

pub lower : (y : ℤ)
    → SFits w64 y
    → le_z (pos 0) y ≡ false
    → let x = to_z w64 (of_z w64 (negsuc 0 -ℤ y)) in
    T (non_neg x) × (nat_abs x < 2 ^ 63)
lower (pos n) h q = absurd (true≢false (sym (leb-zero n) ∙ q))
lower (negsuc n) h q = rw (beyond n, to_z_pos w64 h.sfits) (tt, h.sfits)

pub lower_is : (y : ℤ) → SFits w64 y → le_z (pos 0) y ≡ false → 18446744073709551615 - nat_abs (to_z w64 (of_z w64 (negsuc 0 -ℤ y))) ≡ signed_bits_of y
lower_is (pos n) h q = absurd (true≢false (sym (leb-zero n) ∙ q))
lower_is (negsuc n) h q = rw (beyond n, to_z_pos w64 h.sfits)

-- a number that a caller hands on: the machine reads it back from its bits
pub handed : (w : Width) (z : ℤ) → mag z < 2 ^ hbits w → signed_bits_of (to_z w (of_z w z)) ≡ signed_bits_of z
handed w z h =
    let e : to_z w (of_z w z) ≡ z = to_z-of_z {w = w} {z = z} (record { sfits = h }) in
    rw e
