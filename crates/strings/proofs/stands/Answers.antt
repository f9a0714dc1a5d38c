-- `strings::stands` meets its contract: by the two tests.
use borrow.Author.Tests.{le-leb, lt-leb}
use Rattle.strings.proofs.stands.Goals as goal

pub returns-then-low-s : goal.returns-then-low-s
returns-then-low-s c = rw (le-leb _ _ c.if-low-s.true)

pub returns-else-low-s : goal.returns-else-low-s
returns-else-low-s c = rw (lt-leb _ _ c.if-low-s.false)
