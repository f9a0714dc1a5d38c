-- `cursor::RawCursor::next` meets its contract. The invariant: the first raw value of all that were left is that of those that are left.
use Prim.Native.Nat.{◌-◌}
use native.Mathlib.Omega.{arith}
use mathlib.Core.Path.{refl, sym, ◌∙◌}
use Rattle.wire.proofs.Reading.{stop_stop}
use Rattle.cursor.proofs.Raw.{raw_stops, raw_item, raw_over, raw_none}
use Rattle.cursor.proofs.RawCursor.next.Goals as goal

pub loop-left-init : goal.loop-left-init
loop-left-init c = refl

pub returns-in_err-item : goal.returns-in_err-item
returns-in_err-item c =
    let e = c.in_err-item.field-0.0 in
    let l = c.loop-left in
    stop_stop c.from_residual.result e c.from_residual.ensures
    ∙ sym (l.invariant ∙ raw_stops _ _ _ l.left (l.left - 1) (omega (arith, c.loop-left-test.true)) e (sym c.in_err-item.ensures))

pub returns-in-Some : goal.returns-in-Some
returns-in-Some c =
    let l = c.loop-left in
    sym (l.invariant ∙ raw_item _ _ _ l.left (l.left - 1) (omega (arith, c.loop-left-test.true)) (sym c.in_ok-item.ensures) c.raw_of.ensures c.in-Some.is)

pub loop-left-preserved : goal.loop-left-preserved
loop-left-preserved c =
    let l = c.loop-left in
    l.invariant ∙ raw_over _ _ _ l.left (l.left - 1) (omega (arith, c.loop-left-test.true)) (sym c.in_ok-item.ensures) c.raw_of.ensures c.in-None.is

pub returns : goal.returns
returns c = sym (c.loop-left.invariant ∙ raw_none _ _ _ c.loop-left.left c.loop-left-test.false)
