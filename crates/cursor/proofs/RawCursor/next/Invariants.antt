-- `cursor::RawCursor::next` meets its contract. The invariant: the first raw value of all that were left is that of those that are left.
use mathlib.Core.Path.{◌≡◌}
use Rattle.cursor.specs.Raw.{first_raw}
use Rattle.cursor.proofs.RawCursor.next.Given as goal

abbrev pub invariant-loop-left : goal.invariant-loop-left
invariant-loop-left l = first_raw l.big l.initial.left l.s l.initial.at ≡ first_raw l.big l.left l.s l.at

abbrev pub decreases-loop-left : goal.decreases-loop-left
decreases-loop-left l = l.left
