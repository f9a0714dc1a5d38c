-- `headertype::StandardHeader::header_type_byte` meets its contract: `search` goes through the rule as the code does.
use borrow.Author.Rules.{rules}
use Rattle.headertype.specs.HeaderType.{header_type_byte_of}
use Rattle.headertype.proofs.StandardHeader.header_type_byte.Goals as goal

pub returns : goal.returns
unfolding header_type_byte_of
returns c = search rules depth 20
