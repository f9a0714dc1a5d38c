-- `headers::extended_of` meets its contract: the record, with what the call gave.
use Rattle.headers.specs.Extended.{extended_of_lem}
use Rattle.headers.proofs.extended_of.Goals as goal

pub returns : goal.returns
unfolding extended_of_lem
returns c = rw c.try_from-message_type.ensures
