-- Bits of a number.
use Rattle.std.specs.Prelude.{ℕ, ◌/◌, ◌%◌, Bool, true, false, leb, eqb}
use Rattle.wire.specs.Parser.{pick}

-- the bit of weight p, and whether it is set
abbrev pub bit : ℕ → ℕ → ℕ
bit p x = x / p % 2

abbrev pub flag : ℕ → ℕ → Bool
flag p x = eqb (bit p x) 1

abbrev pub one_if_of : Bool → ℕ
one_if_of b = pick b 1 0

abbrev pub no : Bool → Bool
no a = pick a false true

abbrev pub both : Bool → Bool → Bool
both a b = pick a b false

abbrev pub either : Bool → Bool → Bool
either a b = pick a true b

-- n is one of a to b
abbrev pub from_to : ℕ → ℕ → ℕ → Bool
from_to a b n = both (leb a n) (leb n b)
