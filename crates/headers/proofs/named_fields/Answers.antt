-- `headers::named_fields` meets its contract: `search` goes through the rule as the code does.
use Rattle.wire.proofs.Reading.{reading}
use Rattle.headers.specs.Extended.{named}
use Rattle.headers.proofs.named_fields.Goals as goal

pub returns-in_err-app : goal.returns-in_err-app
unfolding named
returns-in_err-app c = search reading depth 20

pub returns-in_err-context : goal.returns-in_err-context
unfolding named
returns-in_err-context c = search reading depth 20

pub returns : goal.returns
unfolding named
returns c = search reading depth 20
