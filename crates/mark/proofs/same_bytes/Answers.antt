-- `mark::same_bytes` meets its contract: by its tests.
use borrow.Author.Tests.{eq-eqb, ne_eqb}
use Rattle.mark.specs.First.{stands_at_of}
use Rattle.mark.proofs.Blocks.{picked}
use Rattle.mark.proofs.same_bytes.Goals as goal

pub returns-then-c : goal.returns-then-c
unfolding stands_at_of
returns-then-c c = rw (eq-eqb _ 0x44 c.if-a.true, eq-eqb _ 0x4C c.if-b.true, eq-eqb _ 0x54 c.if-c.true) (picked _)

pub returns-else-c : goal.returns-else-c
unfolding stands_at_of
returns-else-c c = rw (eq-eqb _ 0x44 c.if-a.true, eq-eqb _ 0x4C c.if-b.true, ne_eqb _ 0x54 c.if-c.false)

pub returns-else-b : goal.returns-else-b
unfolding stands_at_of
returns-else-b c = rw (eq-eqb _ 0x44 c.if-a.true, ne_eqb _ 0x4C c.if-b.false)

pub returns-else-a : goal.returns-else-a
unfolding stands_at_of
returns-else-a c = rw (ne_eqb _ 0x44 c.if-a.false)
