use mathlib.Core.Path.{sym, ◌∙◌}
use native.Mathlib.Omega.{arith}
use borrow.Author.Tests.{ltb-false}
use Rattle.index.specs.Index.{flat_form}
use Rattle.index.proofs.Laws.{bad_state, too_long, goes_ahead, with_answer}
use Rattle.index.proofs.index_with.Goals as goal

pub returns-then-table-state : goal.returns-then-table-state
returns-then-table-state c = bad_state flat_form _ _ _ _ _ _ (omega arith) ∙ with_answer _ c.refuse.ensures

pub returns-then-too_long : goal.returns-then-too_long
returns-then-too_long c =
    too_long flat_form _ _ _ _ _ _ (omega arith) (sym c.too_long.ensures ∙ c.if-too_long.true)
    ∙ with_answer _ c.refuse-then-too_long.ensures

pub walk_on-requires : goal.walk_on-requires
walk_on-requires c = (omega arith, ltb-false _ _ (sym c.too_long.ensures ∙ c.if-too_long.false))

pub returns : goal.returns
returns c =
    goes_ahead flat_form _ _ _ _ _ _ (omega arith) (sym c.too_long.ensures ∙ c.if-too_long.false)
    ∙ c.walk_on.ensures
