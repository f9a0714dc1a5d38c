-- `strings::valid_up_to` meets its contract: the loop's invariant is `Valid`: so many bytes were passed, all of them in well-formed sequences.
use native.Mathlib.Omega.{arith}
use Rattle.strings.proofs.Utf8.{valid_none, valid_more, valid_found, valid_all, word_le, least_le}
use Rattle.strings.proofs.valid_up_to.Goals as goal

pub loop-k-init : goal.loop-k-init
loop-k-init c =
    let e = c.fewer-end.ensures in
    let l = c.left-rest.ensures in
    (rw (← l) e, rw (e, ← l) (least_le _ _), valid_none _ _ _)

pub returns-then-w-eq0 : goal.returns-then-w-eq0
returns-then-w-eq0 c =
    let l = c.loop-k in
    valid_found _ _ _ l.k _ _ c.loop-k-test.true c.sequence_at-w.ensures c.if-w-eq0.true l.invariant.0 l.invariant.2

pub overflow_add-k : goal.overflow_add-k
overflow_add-k c =
    let h = word_le _ _ _ _ c.sequence_at-w.ensures in
    omega arith

pub loop-k-smaller : goal.loop-k-smaller
loop-k-smaller c =
    let h = word_le _ _ _ _ c.sequence_at-w.ensures in
    omega arith

pub loop-k-preserved : goal.loop-k-preserved
loop-k-preserved c =
    let l = c.loop-k in
    (l.invariant.0, l.invariant.1, valid_more _ _ _ l.k _ c.loop-k-test.true c.sequence_at-w.ensures c.if-w-eq0.false l.invariant.2)

pub returns : goal.returns
returns c =
    let l = c.loop-k in
    valid_all _ _ _ l.k _ c.loop-k-test.false l.invariant.0 l.invariant.2
