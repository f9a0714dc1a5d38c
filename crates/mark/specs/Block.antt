-- A mark of four bytes, by bytes that were read one by one: what a block's places are tested for.
use Rattle.std.specs.Prelude.{ℕ, Bool, List, [], ◌∷◌, drop}
use Rattle.mark.specs.First.{stands_at_of}

-- two bytes are the last two of a mark
abbrev pub is_end_of : List ℕ → ℕ → ℕ → Bool
is_end_of p c d = stands_at_of (drop 2 p) (c ∷ d ∷ []) 0

-- four bytes are the mark
abbrev pub is_mark : List ℕ → ℕ → ℕ → ℕ → ℕ → Bool
is_mark p a b c d = stands_at_of p (a ∷ b ∷ c ∷ d ∷ []) 0
