-- The listing of a trace: a heading, a line for each entry of its index, and a last line that says where the index stops and why.
use Rattle.std.specs.Prelude.{◌≡◌, ℕ, ◌<◌, ◌≤◌, ◌⊎◌, ◌==◌, List, [], ◌∷◌, ◌++◌, Option, length, take, replicate, decimal, codes, IfSome, if◌then◌else◌}
use Rattle.index.specs.Index.{Outcome, call}
use Rattle.index.specs.Calls.{fresh, unlimited}
use Rattle.index.specs.declared.State.{State}
use Rattle.index.specs.declared.End.{End}
use Rattle.entries.specs.declared.Entry.{Entry}
use Rattle.entries.specs.Form.{entry_form}
use Rattle.filled.specs.Filled.{empty}

abbrev pub kind_text : ℕ → List ℕ
kind_text k =
    (if k == 0 then codes "item\n" else
    (if k == 1 then codes "filtered\n" else
    (if k == 2 then codes "hickup\n" else
    (if k == 3 then codes "unrecoverable\n" else codes "overrun\n"))))

-- a number and a space
abbrev pub column : ℕ → List ℕ
column n = decimal n ++ codes " "

abbrev pub line_text : ℕ → ℕ → ℕ → ℕ → List ℕ
line_text start skipped len kind = column start ++ (column skipped ++ (column len ++ kind_text kind))

abbrev pub entry_line : Entry → List ℕ
entry_line e = line_text e.start e.skipped e.length e.kind

unfoldable pub entry_lines : List Entry → List ℕ
entry_lines [] = []
entry_lines (e ∷ es) = entry_line e ++ entry_lines es

-- the entries of a table of numbers, four numbers to an entry; a last piece of fewer than four is none
unfoldable pub entries_in : List ℕ → List Entry
entries_in (start ∷ skipped ∷ len ∷ kind ∷ rest) = record { start = start; skipped = skipped; length = len; kind = kind } ∷ entries_in rest
entries_in l = []

-- the last line: how far the index came, and how many bytes it waits for; or how far it came where its table was full
abbrev pub ending_text : State → End → List ℕ
ending_text state (End.Waits need) = codes "waits " ++ (column state.at ++ (decimal need ++ codes "\n"))
ending_text state e = codes "full " ++ (decimal state.at ++ codes "\n")

-- of what an index call answered, and its table
abbrev pub outcome_text : Outcome Entry → List ℕ
outcome_text o = codes "start skipped length kind\n" ++ (entry_lines (take o.answer.state.used o.table) ++ ending_text o.answer.state o.answer.end)

-- the index of a trace: into a fresh table of 1,024 entries, with no filter and no limit
abbrev pub index_of : List ℕ → Outcome Entry
index_of s = call entry_form [] unlimited s fresh (replicate 1024 empty)

abbrev pub listing_text : List ℕ → List ℕ
listing_text s = outcome_text (index_of s)

-- what goes to the two writers
pub record Told : Type 0 where
  pub out : List ℕ
  pub errors : List ℕ

abbrev pub listed : List ℕ → Told
listed s = record { out = listing_text s; errors = [] }

abbrev pub over_limit : Told
over_limit = record { out = codes "refused: over 65536\n"; errors = [] }

abbrev pub unreadable_line : List ℕ
unreadable_line = codes "listing: the input cannot be read\n"

abbrev pub nothing_read : Told
nothing_read = record { out = []; errors = unreadable_line }

-- t tells of bytes s: their listing, or that they are too many
abbrev pub TellsOf : List ℕ → Told → Type 0
TellsOf s t = ((length s ≤ 65536) × (t ≡ listed s)) ⊎ ((65536 < length s) × (t ≡ over_limit))

-- t tells of all that a reader had, where that is known; or it could not be read
abbrev pub Tells : Option (List ℕ) → Told → Type 0
Tells known t = ((s : List ℕ) × IfSome known (λ xs. xs ≡ s) × TellsOf s t) ⊎ (t ≡ nothing_read)
