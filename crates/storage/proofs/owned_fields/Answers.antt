-- `storage::owned_fields` meets its contract: `search` goes through the rule as the code does.
use Rattle.storage.proofs.Reading.{storage-reading}
use Rattle.storage.specs.Storage.{owned, stored_of}
use Rattle.storage.proofs.owned_fields.Goals as goal

pub returns-in_err-ecu : goal.returns-in_err-ecu
unfolding owned stored_of
returns-in_err-ecu c = search storage-reading depth 20

pub returns : goal.returns
unfolding owned stored_of
returns c = search storage-reading depth 20
