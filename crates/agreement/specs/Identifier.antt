-- The identifier that the bytes of a field give, and which fields of four bytes give the same one.
use Rattle.std.specs.Prelude.{ℕ, ◌-◌, ◌≤◌, ◌≡◌, Bool, true, false, List, [], ◌∷◌, ◌++◌, length, take, drop, replicate, eqb, ltb}
use Rattle.wire.specs.Parser.{pick}
use Rattle.wire.specs.declared.Ended.{Ended}
use Rattle.strings.specs.Utf8.{ValidUtf8}

-- the part of some bytes before their first zero byte; all of them where none is zero
abbrev pub before_zero_of : List ℕ → List ℕ
before_zero_of [] = []
before_zero_of (b ∷ bs) = pick (eqb b 0) [] (b ∷ before_zero_of bs)

-- the identifier of a field's bytes: the longest piece in front of the part before the first zero byte that is valid UTF-8
pub record IdentifierOf (field id : List ℕ) : Type 0 where
  pub front : id ≡ take (length id) (before_zero_of field)
  pub valid : ValidUtf8 id 0 (length id)
  pub longest : (k : ℕ) → k ≤ length (before_zero_of field) → ValidUtf8 (before_zero_of field) 0 k → k ≤ length id

-- why it ended, in a field of n bytes: at bytes that are no UTF-8, where it is shorter than the part before the first zero byte; else at a zero byte, where
-- that part is shorter than the field; else at the field's size. The protocol doesn't speak of it
abbrev pub end_in : ℕ → List ℕ → List ℕ → Ended
end_in n field id = pick (ltb (length id) (length (before_zero_of field))) Ended.Invalid (pick (ltb (length (before_zero_of field)) n) Ended.Zero Ended.Size)

-- four bytes: an identifier, and zero bytes behind it
abbrev pub padded : List ℕ → List ℕ
padded id = id ++ replicate (4 - length id) 0

-- whether a byte other than zero is among some bytes, and whether one stands in a field behind its identifier
abbrev pub nonzero : List ℕ → Bool
nonzero [] = false
nonzero (b ∷ bs) = pick (eqb b 0) (nonzero bs) true

abbrev pub has_more : List ℕ → List ℕ → Bool
has_more field id = nonzero (drop (length id) field)

-- the field of the identifier and zero bytes is another one, has four bytes too, and gives the same identifier
pub record SharesPadded (field id : List ℕ) : Type 0 where
  pub differs : field ≡ padded id → ⊥
  pub four : length (padded id) ≡ 4
  pub same : IdentifierOf (padded id) id
