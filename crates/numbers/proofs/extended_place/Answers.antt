-- `numbers::extended_place` meets its contract: `search` goes through the rule as the code does.
use borrow.Author.Rules.{rules}
use Rattle.numbers.proofs.Outlined.{outlined}
use Rattle.numbers.proofs.extended_place.Goals as goal

pub returns : goal.returns
returns c = search (outlined, rules) depth 20
