-- `mark::is_end` meets its contract: by its test.
use borrow.Author.Tests.{eq-eqb, ne_eqb}
use Rattle.mark.specs.First.{stands_at_of}
use Rattle.mark.proofs.Blocks.{picked}
use Rattle.mark.proofs.is_end.Goals as goal

pub returns-then-c : goal.returns-then-c
unfolding stands_at_of
returns-then-c c = rw (eq-eqb _ 0x54 c.if-c.true) (picked _)

pub returns : goal.returns
unfolding stands_at_of
returns c = rw (ne_eqb _ 0x54 c.if-c.false)
