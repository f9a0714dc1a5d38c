use mathlib.Core.Path.{sym, ap, ◌∙◌}
use Rattle.std.specs.Prelude.{Err}
use native.Mathlib.Omega.{arith}
use borrow.Author.Tests.{ltb-false}
use Rattle.entries.proofs.Turns.{first_bad_filter, first_retired, first_bad_state, first_too_long, first_due}
use Rattle.entries.proofs.first.Goals as goal

pub returns-then-cap-state : goal.returns-then-cap-state
returns-then-cap-state c = c.stop.ensures ∙ first_bad_state _ _ _ _ _ _ c.read_filter.ensures _ c.in-Ok.is (omega arith)

pub returns-then-too_long : goal.returns-then-too_long
returns-then-too_long c =
    c.stop-then-too_long.ensures
    ∙ first_too_long _ _ _ _ _ _ c.read_filter.ensures _ c.in-Ok.is (omega arith) (sym c.too_long.ensures ∙ c.if-too_long.true)

pub due-requires : goal.due-requires
due-requires c = (omega arith, ltb-false _ _ (sym c.too_long.ensures ∙ c.if-too_long.false))

pub returns-else-too_long : goal.returns-else-too_long
returns-else-too_long c =
    c.due.ensures
    ∙ first_due _ _ _ _ _ _ c.read_filter.ensures _ c.in-Ok.is (omega arith) (sym c.too_long.ensures ∙ c.if-too_long.false)

pub returns-in-Err-Retired : goal.returns-in-Err-Retired
returns-in-Err-Retired c = c.stop-in-Err-Retired.ensures ∙ first_retired _ _ _ _ _ _ c.read_filter.ensures (c.in-Err-Retired.is ∙ ap Err c.in-Err-Retired.field-0-is)

pub returns-in-Err-Bad : goal.returns-in-Err-Bad
returns-in-Err-Bad c = c.stop-in-Err-Bad.ensures ∙ first_bad_filter _ _ _ _ _ _ c.read_filter.ensures (c.in-Err-Bad.is ∙ ap Err c.in-Err-Bad.field-0-is)
