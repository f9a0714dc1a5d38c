-- Which kinds and lengths fit each other: `acceptable` (specs/Accepted.antt) over a word's kind, length and fixed-point bit.
use Prim.Native.Nat.{ℕ, ◌+◌, ◌/◌, ◌%◌}
use mathlib.Core.Bool.{Bool, true}
use lib.Dec.{eqb}
use Rattle.wire.specs.Parser.{pick}
use Rattle.headertype.specs.Bits.{both, either, from_to}

abbrev pub fits : ℕ → ℕ → Bool → Bool
fits k l f =
    both (eqb (k % 2 + k / 2 % 2 + k / 4 % 2 + k / 8 % 2 + k / 32 % 2 + k / 64 % 2) 1)
    (both (eqb (k / 16 % 2) 0)
    (pick (either (eqb (k / 2 % 2) 1) (eqb (k / 4 % 2) 1)) (pick f (from_to 3 4 l) (from_to 1 5 l))
    (pick (eqb (k / 8 % 2) 1) (from_to 3 4 l) true)))
