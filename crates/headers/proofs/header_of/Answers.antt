-- `headers::header_of` meets its contract: the record, with what the calls gave.
use Rattle.headers.specs.Standard.{header_of_lem}
use Rattle.headers.proofs.header_of.Goals as goal

pub returns : goal.returns
unfolding header_of_lem
returns c = rw (c.calculate_all_headers_length-all.ensures, c.endianness_of-endianness.ensures)
