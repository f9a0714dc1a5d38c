-- `cursor::pass_arguments` meets its contract. The invariant: the whole is what is left of it at the loop's position.
use native.Mathlib.Nat.{sub-zero}
use mathlib.Core.Path.{sym, ◌∙◌}
use Rattle.wire.proofs.Step.{times_next, times_none}
use Rattle.wire.proofs.Reading.{stop_passed}
use Rattle.skim.proofs.Same.{was_done}
use Rattle.cursor.specs.Cursor.{arguments}
use Rattle.cursor.proofs.Passing.{stops_there}
use Rattle.cursor.proofs.pass_arguments.Goals as goal

pub loop-init : goal.loop-init
unfolding arguments
loop-init c = rw sub-zero

pub returns-in_err-pos : goal.returns-in_err-pos
returns-in_err-pos c =
    let e = c.in_err-pos.field-0.0 in
    let l = c.loop in
    stop_passed c.from_residual.result e c.from_residual.ensures ∙ sym (l.invariant ∙ stops_there _ _ _ _ l.counter c.loop-test.true e (sym c.in_err-pos.ensures))

pub loop-preserved : goal.loop-preserved
loop-preserved c =
    let l = c.loop in
    l.invariant ∙ times_next _ _ _ _ l.counter c.loop-test.true (was_done _ _ (sym c.in_ok-pos.ensures)).1

pub returns : goal.returns
returns c = sym (c.loop.invariant ∙ times_none _ _ _ _ c.loop.counter c.loop-test.false)
