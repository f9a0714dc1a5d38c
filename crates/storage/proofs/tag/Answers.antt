-- `storage::tag` meets its contract: the loop's invariant is `Passed`: so many bytes of the tag were passed, and stand.
use native.Mathlib.Omega.{arith}
use Rattle.storage.proofs.Tags.{passed_none, passed_short, passed_differs, passed_more, passed_all}
use Rattle.storage.proofs.tag.Goals as goal

pub loop-k-init : goal.loop-k-init
loop-k-init c = (omega arith, passed_none _ _ c.requires _ _)

pub returns-then-rest-k : goal.returns-then-rest-k
returns-then-rest-k c = passed_short _ _ c.requires _ _ c.loop-k.k _ c.left-rest.ensures c.loop-k.invariant.1 c.loop-k-test.true c.if-rest-k.true

pub returns-then-s-at : goal.returns-then-s-at
returns-then-s-at c = passed_differs _ _ c.requires _ _ c.loop-k.k _ c.left-rest.ensures c.loop-k.invariant.1 c.loop-k-test.true c.if-rest-k.false c.if-s-at.true

pub loop-k-preserved : goal.loop-k-preserved
loop-k-preserved c = (omega arith, passed_more _ _ c.requires _ _ c.loop-k.k _ c.left-rest.ensures c.loop-k.invariant.1 c.loop-k-test.true c.if-rest-k.false c.if-s-at.false)

pub returns : goal.returns
returns c = passed_all _ _ c.requires _ _ c.loop-k.k _ c.left-rest.ensures c.loop-k.invariant.1 c.loop-k-test.false
