-- `strings::from_third` meets its contract: each way through it is a law of `spelled`.
use borrow.Author.Rules.{rules}
use native.Mathlib.Omega.{arith}
use Rattle.strings.proofs.Spelled.{spelled, above_letters}
use Rattle.strings.proofs.Utf8.{word_le}
use Rattle.strings.proofs.from_third.Goals as goal

pub returns-then-letter_at : goal.returns-then-letter_at
returns-then-letter_at c = search (rules, spelled) depth 20

pub returns-then-s-at-eq0 : goal.returns-then-s-at-eq0
returns-then-s-at-eq0 c = search (rules, spelled) depth 20

pub longer_at-requires : goal.longer_at-requires
longer_at-requires c = search (rules, above_letters) depth 20

pub overflow_add-result : goal.overflow_add-result
overflow_add-result c = let w = word_le 2 _ _ _ c.longer_at.ensures in omega arith

pub returns : goal.returns
returns c = search (rules, spelled) depth 20
