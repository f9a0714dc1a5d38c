-- `strings::before_zero` meets its contract: the loop's invariant is `Passed`: so many bytes were passed, and none is zero.
use Rattle.strings.proofs.Strings.{passed_none, passed_more, passed_found, passed_all}
use Rattle.strings.proofs.before_zero.Goals as goal

pub loop-k-init : goal.loop-k-init
loop-k-init c = passed_none _ _ _

pub returns-then-s-at-eq0 : goal.returns-then-s-at-eq0
returns-then-s-at-eq0 c = passed_found _ _ _ _ c.loop-k-test.true c.if-s-at-eq0.true c.loop-k.invariant

pub loop-k-preserved : goal.loop-k-preserved
loop-k-preserved c = passed_more _ _ _ _ c.loop-k-test.true c.if-s-at-eq0.false c.loop-k.invariant

pub returns : goal.returns
returns c = passed_all _ _ _ _ c.loop-k-test.false c.loop-k.invariant
