-- What was written, and the lines of the entries left, are the lines of all.
use Rattle.std.proofs.Common.{◌≡◌, List, ℕ, ◌++◌, take}
use Rattle.std.specs.Io.KnownBytes.{Appends}
use Rattle.listed.specs.Listing.{entry_lines, entries_in}
use Rattle.listed.proofs.lines.Given as goal

abbrev pub invariant-loop-e : goal.invariant-loop-e
invariant-loop-e g l = (done : List ℕ) × Appends (g.W.Write.contents l.initial.out) (g.W.Write.contents l.out) done
    × (done ++ entry_lines (take l.e-iterator.n (entries_in l.e-iterator.iter.rest.now)) ≡ entry_lines (take l.fn.used (entries_in l.fn.table)))
    × (l.e-iterator.iter.size ≡ 4)
