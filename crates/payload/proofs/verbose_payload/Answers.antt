-- `payload::verbose_payload` meets its contract: `search` goes through the rule as the code does.
use Rattle.payload.proofs.Reading.{payload-reading}
use Rattle.payload.specs.Payload.{verbose}
use Rattle.payload.proofs.verbose_payload.Goals as goal

pub returns-in_err-end : goal.returns-in_err-end
unfolding verbose
returns-in_err-end c = search payload-reading depth 20

pub returns : goal.returns
unfolding verbose
returns c = search payload-reading depth 20
