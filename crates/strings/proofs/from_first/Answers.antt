-- `strings::from_first` meets its contract: each way through it is a law of `spelled`.
use borrow.Author.Rules.{rules}
use Rattle.strings.proofs.Spelled.{spelled, above_letters}
use Rattle.strings.proofs.from_first.Goals as goal

pub returns-then-letter_at : goal.returns-then-letter_at
returns-then-letter_at c = search (rules, spelled) depth 20

pub returns-then-s-at-eq0 : goal.returns-then-s-at-eq0
returns-then-s-at-eq0 c = search (rules, spelled) depth 20

pub returns-then-s-at-gt239 : goal.returns-then-s-at-gt239
returns-then-s-at-gt239 c = search (rules, spelled) depth 20

pub two_or_three_at-requires : goal.two_or_three_at-requires
two_or_three_at-requires c = search (rules, above_letters) depth 20

pub returns-in-2 : goal.returns-in-2
returns-in-2 c = search (rules, spelled) depth 20

pub returns-in-3 : goal.returns-in-3
returns-in-3 c = search (rules, spelled) depth 20

pub returns-in_default : goal.returns-in_default
returns-in_default c = search (rules, spelled) depth 20
