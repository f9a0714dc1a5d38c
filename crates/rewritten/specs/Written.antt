-- What is written of a filter: the bytes that are left, and the lines that say what was removed.
use Rattle.std.specs.Prelude.{◌≡◌, ℕ, ◌+◌, ℤ, ◌⊎◌, List, [], ◌++◌, Option, take, decimal, codes, IfSome, Result, Ok, Err, Some, None}
use Rattle.std.specs.Fmt.{signed_decimal}
use Rattle.std.specs.Io.KnownBytes.{Appends}
use Rattle.filter.specs.declared.Counts.{Counts}
use Rattle.retired.specs.declared.Cut.{Cut}
use Rattle.filter.specs.declared.BadFilter.{BadFilter}
use Rattle.retired.specs.Rewrite.{rewrite_of}

-- the line of a count whose field stood at a place
abbrev pub line_of : ℕ → List ℕ → ℤ → List ℕ
line_of at name n = codes "removed " ++ decimal at ++ codes " 11 " ++ name ++ codes " count " ++ signed_decimal n ++ codes "\n"

-- the line of the context count, if it was there
abbrev pub context_line_of : ℕ → Option ℤ → List ℕ
context_line_of at (Some n) = line_of at (codes "context") n
context_line_of at None = []

-- the lines of the counts that were there, in order; the first stood behind so many bytes
abbrev pub lines_from : ℕ → Option ℤ → Option ℤ → List ℕ
lines_from at (Some n) contexts = line_of at (codes "app") n ++ context_line_of (at + 11) contexts
lines_from at None contexts = context_line_of at contexts

abbrev pub removed_lines : ℕ → Counts → List ℕ
removed_lines kept counts = lines_from kept counts.apps counts.contexts

pub record Written : Type 0 where
  pub bytes : List ℕ
  pub lines : List ℕ

abbrev pub written_of : List ℕ → Result Cut BadFilter → Written
written_of f (Ok cut) = record { bytes = take cut.kept f; lines = removed_lines cut.kept cut.counts }
written_of f (Err e) = record { bytes = []; lines = codes "refused: bad filter\n" }

-- of a filter's bytes
abbrev pub written : List ℕ → Written
written f = written_of f (rewrite_of f)

-- of an input that cannot be read
abbrev pub unreadable_line : List ℕ
unreadable_line = codes "rewriter: the input cannot be read\n"

abbrev pub nothing_read : Written
nothing_read = record { bytes = []; lines = unreadable_line }

-- two writers' known bytes grow by what is written
abbrev pub Grow : Option (List ℕ) → Option (List ℕ) → Option (List ℕ) → Option (List ℕ) → Written → Type 0
Grow bytes bytes' lines lines' w = Appends bytes bytes' w.bytes × Appends lines lines' w.lines

-- w is written of all that a reader had, where that is known; or it could not be read
abbrev pub IsOf : Option (List ℕ) → Written → Type 0
IsOf known w = ((f : List ℕ) × IfSome known (λ xs. xs ≡ f) × (w ≡ written f)) ⊎ (w ≡ nothing_read)
