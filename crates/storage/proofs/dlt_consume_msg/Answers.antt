-- `storage::dlt_consume_msg` meets its contract: `search` goes through the rule as the code does.
use Rattle.storage.proofs.Reading.{storage-reading}
use Rattle.storage.proofs.dlt_consume_msg.Goals as goal

pub returns-then-rest-lt1 : goal.returns-then-rest-lt1
returns-then-rest-lt1 c = search storage-reading depth 20

pub returns-in_err-lead : goal.returns-in_err-lead
returns-in_err-lead c = search storage-reading depth 20

pub returns : goal.returns
returns c = search storage-reading depth 20
