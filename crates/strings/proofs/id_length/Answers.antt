-- `strings::id_length` meets its contract: the four bytes are there, or aren't.
use borrow.Author.Rules.{rules}
use Rattle.strings.proofs.Spelled.{length_there, length_missing}
use Rattle.strings.proofs.id_length.Goals as goal

pub returns-then-rest-ge4 : goal.returns-then-rest-ge4
returns-then-rest-ge4 c = search (rules, length_there) depth 20

pub returns-else-rest-ge4 : goal.returns-else-rest-ge4
returns-else-rest-ge4 c = search (rules, length_missing) depth 20
