-- `payload::is_network` meets its contract: `search` goes through the rule as the code does.
use Rattle.payload.proofs.Reading.{tables}
use Rattle.payload.specs.Payload.{is_network_of}
use Rattle.payload.proofs.is_network.Goals as goal

pub returns-in-Some : goal.returns-in-Some
unfolding is_network_of
returns-in-Some c = search tables depth 20

pub returns-in-None : goal.returns-in-None
unfolding is_network_of
returns-in-None c = search tables depth 20
