-- The flat table that a table of structs is: its entries' fields in order.
use Rattle.std.specs.Prelude.{ℕ, zero, suc, ◌+◌, List, [], ◌∷◌, ◌++◌}
use Rattle.index.specs.Index.{Outcome}
use Rattle.entries.specs.declared.Entry.{Entry}

-- each element written as some of another kind
unfoldable pub spread : {A B : Type 0} → (A → List B) → List A → List B
spread f [] = []
spread f (x ∷ l) = f x ++ spread f l

-- an entry's fields in order, and a table's
abbrev pub fields : Entry → List ℕ
fields e = e.start ∷ e.skipped ∷ e.length ∷ e.kind ∷ []

abbrev pub numbers : List Entry → List ℕ
numbers T = spread fields T

-- what a call leaves, with the table's numbers in the table's place
abbrev pub flat_of : Outcome Entry → Outcome ℕ
flat_of o = record { answer = o.answer; table = numbers o.table }

-- bytes skipped and lengths over the first n entries
unfoldable pub spanned : ℕ → List Entry → ℕ
spanned zero T = 0
spanned (suc n) [] = 0
spanned (suc n) (e ∷ T) = e.skipped + e.length + spanned n T
