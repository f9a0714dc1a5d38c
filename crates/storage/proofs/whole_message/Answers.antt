-- `storage::whole_message` meets its contract: `search` goes through the rule as the code does.
use Rattle.storage.proofs.Reading.{storage-reading}
use Rattle.storage.specs.Consume.{whole}
use Rattle.storage.proofs.whole_message.Goals as goal

pub returns-in_err-standard : goal.returns-in_err-standard
unfolding whole
returns-in_err-standard c = search storage-reading depth 20

pub returns-in_err-message : goal.returns-in_err-message
unfolding whole
returns-in_err-message c = search storage-reading depth 20

pub returns : goal.returns
unfolding whole
returns c = search storage-reading depth 20
