-- `storage::skip_storage_header` meets its contract: `search` goes through the rule as the code does.
use Rattle.storage.proofs.Reading.{storage-reading}
use Rattle.storage.specs.Consume.{skip}
use Rattle.storage.proofs.skip_storage_header.Goals as goal

pub returns-in_err-letters : goal.returns-in_err-letters
unfolding skip
returns-in_err-letters c = search storage-reading depth 20

pub returns-in_err-one : goal.returns-in_err-one
unfolding skip
returns-in_err-one c = search storage-reading depth 20

pub returns-in_err-rest : goal.returns-in_err-rest
unfolding skip
returns-in_err-rest c = search storage-reading depth 20

pub returns : goal.returns
unfolding skip
returns c = search storage-reading depth 20
