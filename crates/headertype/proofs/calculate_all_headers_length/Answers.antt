-- `headertype::calculate_all_headers_length` meets its contract: `search` goes through the rule as the code does.
use borrow.Author.Rules.{rules}
use Rattle.headertype.specs.HeaderType.{all_headers}
use Rattle.headertype.proofs.calculate_all_headers_length.Goals as goal

pub returns : goal.returns
unfolding all_headers
returns c = search rules depth 20
