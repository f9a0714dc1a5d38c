-- What stands at a place of a fresh table.
use Rattle.entries.specs.declared.Entry.{Entry}

abbrev pub empty : Entry
empty = record { start = 0; skipped = 0; length = 0; kind = 0 }
