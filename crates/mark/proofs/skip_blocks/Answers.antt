-- `mark::skip_blocks` meets its contract. The loop's invariant: the first place from `at` on is the first from `place` on.
use mathlib.Core.Path.{refl, ◌∙◌}
use Rattle.mark.proofs.skip_blocks.Goals as goal

pub loop-at-init : goal.loop-at-init
loop-at-init c = refl

pub returns-then-not-is_free : goal.returns-then-not-is_free
returns-then-not-is_free c = c.loop-at.invariant

pub loop-at-preserved : goal.loop-at-preserved
loop-at-preserved c = c.loop-at.invariant ∙ c.is_free.ensures (c.if-not-is_free.false)

pub returns-after-loop-at : goal.returns-after-loop-at
returns-after-loop-at c = c.loop-at.invariant

pub returns-then-end-place : goal.returns-then-end-place
returns-then-end-place c = c.loop-at.invariant
