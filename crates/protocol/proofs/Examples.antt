-- The words and bytes that docs/DIFFERENCES.md shows are in the sets that it names.
-- Assumes nothing.
use Prim.Native.Nat.{ℕ}
use mathlib.Core.Path.{◌≡◌, refl}
use mathlib.Core.Bool.{Bool, true}
use mathlib.Core.List.{List, [], ◌∷◌}
use Rattle.headertype.specs.Bits.{both}
use Rattle.dlt.specs.Accepted.{acceptable}
use Rattle.protocol.specs.Msin.{reserved_set, other_name}
use Rattle.protocol.specs.Sets.{both_have, crate_alone, protocol_alone}

abbrev all : (ℕ → Bool) → List ℕ → Bool
all f [] = true
all f (n ∷ ns) = both (f n) (all f ns)

-- 0x11 a bool, 0x21 to 0x25 signed, 0x1023 in fixed point, 0x83 a float, 0x200 a string, 0x400 raw, 0x8A00 UTF-8 with a name
pub of_both : all both_have (17 ∷ 33 ∷ 34 ∷ 35 ∷ 36 ∷ 37 ∷ 4131 ∷ 131 ∷ 512 ∷ 1024 ∷ 35328 ∷ []) ≡ true
of_both = refl

-- 0x10, 0x1011, 0x1200, 0x2011, 0x4011, 0x10011, 0x10200, 0x40011
pub of_the_crate : all crate_alone (16 ∷ 4113 ∷ 4608 ∷ 8209 ∷ 16401 ∷ 65553 ∷ 66048 ∷ 262161 ∷ []) ≡ true
unfolding acceptable
of_the_crate = refl

-- 0x1021, 0x1022, 0x1025, 0x82, 0x85, 0x111, 0x2000, 0x4000
pub of_the_protocol : all protocol_alone (4129 ∷ 4130 ∷ 4133 ∷ 130 ∷ 133 ∷ 273 ∷ 8192 ∷ 16384 ∷ []) ≡ true
of_the_protocol = refl

-- 0x00, 0x02, 0x04, 0x06, 0x08
pub reserved_bytes : all reserved_set (0 ∷ 2 ∷ 4 ∷ 6 ∷ 8 ∷ []) ≡ true
reserved_bytes = refl

-- 0x54, 0x64, 0x74, 0xF4, 0x36
pub other_names : all other_name (84 ∷ 100 ∷ 116 ∷ 244 ∷ 54 ∷ []) ≡ true
other_names = refl
