-- `payload::count_of` meets its contract: `search` goes through the rule as the code does.
use Rattle.payload.proofs.Reading.{tables}
use Rattle.payload.specs.Payload.{count_of}
use Rattle.payload.proofs.count_of.Goals as goal

pub returns-in-Some : goal.returns-in-Some
unfolding count_of
returns-in-Some c = search tables depth 20

pub returns-in-None : goal.returns-in-None
unfolding count_of
returns-in-None c = search tables depth 20
