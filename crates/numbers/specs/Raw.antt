-- The numbers of a raw value of a network trace and of the cursor behind it, in the order in which a host finds them in the slice that it lends.
use Rattle.std.specs.Prelude.{ℕ, List, [], ◌∷◌, length, leb}
use Rattle.wire.specs.Parser.{pick}
use Rattle.wire.specs.declared.Range.{Range}
use Rattle.table.specs.Over.{over}
use Rattle.cursor.specs.declared.RawCursor.{RawCursor}
use Rattle.numbers.specs.Layout.{one_if_of}

-- where the next argument stands, how many are left, big-endian or not; the value's place in the bytes and its length
unfoldable pub raw_numbers : RawCursor → Range → List ℕ
raw_numbers c r = c.at ∷ c.left ∷ one_if_of c.big ∷ r.start ∷ r.len ∷ []

-- how many numbers there are, and what is left in a slice: nothing is written into one that is too short
abbrev pub raw_size : ℕ
raw_size = 5

unfoldable pub raw_laid : List ℕ → RawCursor → Range → List ℕ
raw_laid T c r = pick (leb raw_size (length T)) (over T 0 (raw_numbers c r)) T
