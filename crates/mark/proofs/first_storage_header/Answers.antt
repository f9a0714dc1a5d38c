-- `mark::first_storage_header` meets its contract: by the four bytes at the first place.
use native.Mathlib.Omega.{arith}
use mathlib.Core.Path.{sym, ◌∙◌}
use Rattle.mark.specs.First.{pattern}
use Rattle.mark.proofs.Laws.{short}
use Rattle.mark.proofs.Blocks.{mark_hit, mark_miss}
use Rattle.mark.proofs.first_storage_header.Goals as goal

pub returns-then-s-lt4 : goal.returns-then-s-lt4
returns-then-s-lt4 c = sym (short pattern _ _ (omega arith))

pub returns-then-same_number : goal.returns-then-same_number
returns-then-same_number c = sym (mark_hit pattern _ _ (omega arith) (omega arith) (sym c.same_number.ensures ∙ c.if-same_number.true))

pub returns-then-i-s : goal.returns-then-i-s
returns-then-i-s c = sym (mark_miss pattern _ _ (omega arith) (omega arith) (sym c.same_number.ensures ∙ c.if-same_number.false) ∙ c.next_place-i.ensures.0 (omega arith))

pub returns-else-i-s : goal.returns-else-i-s
returns-else-i-s c = sym (mark_miss pattern _ _ (omega arith) (omega arith) (sym c.same_number.ensures ∙ c.if-same_number.false) ∙ c.next_place-i.ensures.1 (omega arith))
