-- Two's complement at any width w: what the code computes in the lower half and in the upper half.
-- Assumes nothing.
use Prim.Native.Nat.{ℕ, zero, suc, ◌-◌, ◌^◌, ◌≤◌, ◌<◌}
use native.Mathlib.Nat.{zero-add}
use mathlib.Core.Path.{◌≡◌, refl, ap, ◌∙◌}
use lib.IntN.{ℤ, pos, negsuc, ◌-ℤ◌}
use lib.Dec.{ltb}
use lib.Signed.{mag}
use mir.Syntax.{Width}
use mir.Val.{bits, hbits, SFits, to_z, of_z}
use mir.Facts.{to_z_pos, to_z-of_z}
use borrow.Author.Tests.{lt-ltb, le-ltb}
use Rattle.wire.specs.Parser.{pick}

-- -1 less n
less : (n : ℕ) → negsuc 0 -ℤ pos n ≡ negsuc n
less zero = refl
less (suc n) = ap (λ (m : ℕ). negsuc (suc m)) (zero-add n)

module _ (w : Width) (b : ℕ) where
  pub lower : b < 2 ^ hbits w → to_z w b ≡ pick (ltb b (2 ^ hbits w)) (pos b) (negsuc (2 ^ bits w - 1 - b))
  lower h = rw (lt-ltb b (2 ^ hbits w) h)

  module _ (h : 2 ^ hbits w ≤ b) (l : 2 ^ bits w - 1 - b < 2 ^ hbits w) where
    number : negsuc 0 -ℤ to_z w (2 ^ bits w - 1 - b) ≡ negsuc (2 ^ bits w - 1 - b)
    number = ap (λ (z : ℤ). negsuc 0 -ℤ z) (to_z_pos w l) ∙ less (2 ^ bits w - 1 - b)

    pub upper_fits : SFits w (negsuc 0 -ℤ to_z w (2 ^ bits w - 1 - b))
    upper_fits = rw number (record { sfits = l })

    pub upper : to_z w (of_z w (negsuc 0 -ℤ to_z w (2 ^ bits w - 1 - b)))
        ≡ pick (ltb b (2 ^ hbits w)) (pos b) (negsuc (2 ^ bits w - 1 - b))
    upper = rw (le-ltb b (2 ^ hbits w) h) (to_z-of_z upper_fits ∙ number)

-- a caller that hands a signed result on: the machine reads it back from its bits
pub handed_on : (w : Width) {z y : ℤ} → mag z < 2 ^ hbits w → z ≡ y → to_z w (of_z w z) ≡ y
handed_on w h e = to_z-of_z (record { sfits = h }) ∙ e
