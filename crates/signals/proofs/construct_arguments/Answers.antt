-- `signals::construct_arguments` meets its contract. The invariant: the whole is what is left of it at the loop's position.
use mathlib.Core.Path.{sym, ◌∙◌}
use Rattle.signals.proofs.Reading.{constructed_stops}
use Rattle.signals.proofs.Words.{words_next, words_hickup, words_done}
use Rattle.signals.proofs.construct_arguments.Goals as goal

pub returns-in_err-at : goal.returns-in_err-at
returns-in_err-at c =
    let e = c.in_err-at.field-0.0 in
    let l = c.loop-word in
    constructed_stops c.from_residual.result e c.from_residual.ensures ∙ words_hickup _ _ _ _ l.word-index l.invariant c.loop-word-test.true (sym c.in_err-at.ensures)

pub loop-word-preserved : goal.loop-word-preserved
loop-word-preserved c =
    let l = c.loop-word in
    l.invariant ∙ words_next _ _ _ _ l.word-index c.loop-word-test.true (sym c.in_ok-at.ensures)

pub returns : goal.returns
returns c = words_done _ _ _ _ c.loop-word.word-index c.loop-word.invariant c.loop-word-test.false
