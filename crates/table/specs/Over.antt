-- What a call leaves in a lent slice: new elements over the old ones, from a place on.
use Rattle.std.specs.Prelude.{ℕ, ◌+◌, List, ◌++◌, length, take, drop}

-- v written over l from place a on
unfoldable pub over : {A : Type 0} → List A → ℕ → List A → List A
over l a v = take a l ++ (v ++ drop (a + length v) l)
