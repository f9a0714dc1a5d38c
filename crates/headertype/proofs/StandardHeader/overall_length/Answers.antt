-- `headertype::StandardHeader::overall_length` meets its contract: `search` goes through the rule as the code does.
use Rattle.headertype.proofs.Reading.{header-reading}
use Rattle.headertype.specs.HeaderType.{overall_length_of}
use Rattle.headertype.proofs.StandardHeader.overall_length.Goals as goal

pub returns : goal.returns
unfolding overall_length_of
returns c = search header-reading depth 20
