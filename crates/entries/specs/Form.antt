-- The trace index over a lent slice of entry structs: how entries lie in its table. The call is index's `call` at this form.
use Rattle.std.specs.Prelude.{ℕ, [], ◌∷◌}
use Rattle.walk.specs.Walk.{Entry as Found}
use Rattle.index.specs.Index.{Form}
use Rattle.entries.specs.declared.Entry.{Entry}

-- an entry of the walk as the table holds it
abbrev pub entry_of : Found ℕ → Entry
entry_of e = record { start = e.start; skipped = e.skipped; length = e.len; kind = e.info }

-- one struct to an entry
abbrev pub entry_form : Form Entry
entry_form = record { width = 1; cells = λ e. entry_of e ∷ []; holds = λ n. n }
