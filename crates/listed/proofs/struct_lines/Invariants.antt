-- What was written, and the lines of the entries left, are the lines of all.
use Rattle.std.proofs.Common.{◌≡◌, List, ℕ, ◌++◌, take}
use Rattle.std.specs.Io.KnownBytes.{Appends}
use Rattle.listed.specs.Listing.{entry_lines}
use Rattle.listed.proofs.struct_lines.Given as goal

abbrev pub invariant-loop-e : goal.invariant-loop-e
invariant-loop-e g l = (done : List ℕ) × Appends (g.W.Write.contents l.initial.out) (g.W.Write.contents l.out) done × (done ++ entry_lines (take l.e-iterator.n l.e-iterator.iter.rest.now) ≡ entry_lines (take l.fn.used l.fn.table))
