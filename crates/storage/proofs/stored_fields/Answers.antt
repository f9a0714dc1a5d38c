-- `storage::stored_fields` meets its contract: `search` goes through the rule as the code does.
use Rattle.storage.proofs.Reading.{storage-reading}
use Rattle.storage.specs.Storage.{stored}
use Rattle.storage.proofs.stored_fields.Goals as goal

pub returns-in_err-mark : goal.returns-in_err-mark
unfolding stored
returns-in_err-mark c = search storage-reading depth 20

pub returns-in_err-seconds : goal.returns-in_err-seconds
unfolding stored
returns-in_err-seconds c = search storage-reading depth 20

pub returns-in_err-micros : goal.returns-in_err-micros
unfolding stored
returns-in_err-micros c = search storage-reading depth 20

pub returns : goal.returns
unfolding stored
returns c = search storage-reading depth 20
