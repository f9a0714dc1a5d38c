-- `strings::from_fourth` meets its contract: each way through it is a law of `spelled`.
use borrow.Author.Rules.{rules}
use Rattle.strings.proofs.Spelled.{spelled}
use Rattle.strings.proofs.from_fourth.Goals as goal

pub returns-then-letter_at : goal.returns-then-letter_at
returns-then-letter_at c = search (rules, spelled) depth 20

pub returns-else-letter_at : goal.returns-else-letter_at
returns-else-letter_at c = search (rules, spelled) depth 20
