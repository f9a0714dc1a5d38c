-- `headers::endianness_of` meets its contract: by the test.
use borrow.Author.Tests.{eq-eqb, ne_eqb}
use Rattle.headers.specs.Standard.{endian_of}
use Rattle.headers.proofs.endianness_of.Goals as goal

pub returns-then-typ-eq1 : goal.returns-then-typ-eq1
unfolding endian_of
returns-then-typ-eq1 c = rw (eq-eqb _ _ c.if-typ-eq1.true)

pub returns-else-typ-eq1 : goal.returns-else-typ-eq1
unfolding endian_of
returns-else-typ-eq1 c = rw (ne_eqb _ _ c.if-typ-eq1.false)
