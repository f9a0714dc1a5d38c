-- `storage::dlt_storage_header` meets its contract: `search` goes through the rule as the code does.
use borrow.Author.Rules.{rules}
use Rattle.storage.proofs.Reading.{storage-reading, place_from}
use Rattle.storage.proofs.dlt_storage_header.Goals as goal

pub returns-then-rest-lt16 : goal.returns-then-rest-lt16
returns-then-rest-lt16 c = search storage-reading depth 20

pub overflow_sub-i : goal.overflow_sub-i
overflow_sub-i c = search (rules, place_from)

pub returns-in-Some : goal.returns-in-Some
returns-in-Some c = search storage-reading depth 20

pub returns-in-None : goal.returns-in-None
returns-in-None c = search storage-reading depth 20
