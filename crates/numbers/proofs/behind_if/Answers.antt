-- `numbers::behind_if` meets its contract: `search` goes through the rule as the code does.
use borrow.Author.Rules.{rules}
use Rattle.numbers.proofs.Outlined.{outlined}
use Rattle.numbers.proofs.behind_if.Goals as goal

pub returns-then-present : goal.returns-then-present
returns-then-present c = search (outlined, rules) depth 20

pub returns-else-present : goal.returns-else-present
returns-else-present c = search (outlined, rules) depth 20
