-- `payload::is_verbose` meets its contract: `search` goes through the rule as the code does.
use Rattle.payload.proofs.Reading.{tables}
use Rattle.payload.specs.Payload.{is_verbose_of}
use Rattle.payload.proofs.is_verbose.Goals as goal

pub returns-in-Some : goal.returns-in-Some
unfolding is_verbose_of
returns-in-Some c = search tables depth 20

pub returns-in-None : goal.returns-in-None
unfolding is_verbose_of
returns-in-None c = search tables depth 20
