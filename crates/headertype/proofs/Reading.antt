-- What `search` is handed for the functions of this crate.
use Prim.Native.Nat.{ℕ, ◌+◌}
use mathlib.Core.Path.{◌≡◌}
use Rattle.headertype.specs.HeaderType.{all_headers}

-- a length by a header's type byte
pub length_of_lem : (a p t u : ℕ) → a ≡ all_headers t → t ≡ u → a + p ≡ all_headers u + p
length_of_lem a p t u e q = rw (e, q)

pub ruleset header-reading = length_of_lem
