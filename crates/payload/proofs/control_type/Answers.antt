-- `payload::control_type` meets its contract: `search` goes through the rule as the code does.
use Rattle.payload.proofs.Reading.{tables}
use Rattle.payload.specs.Payload.{control_type_of}
use Rattle.payload.proofs.control_type.Goals as goal

pub returns-in-Log : goal.returns-in-Log
unfolding control_type_of
returns-in-Log c = search tables depth 20

pub returns-in-ApplicationTrace : goal.returns-in-ApplicationTrace
unfolding control_type_of
returns-in-ApplicationTrace c = search tables depth 20

pub returns-in-NetworkTrace : goal.returns-in-NetworkTrace
unfolding control_type_of
returns-in-NetworkTrace c = search tables depth 20

pub returns-in-Control : goal.returns-in-Control
unfolding control_type_of
returns-in-Control c = search tables depth 20

pub returns-in-Unknown : goal.returns-in-Unknown
unfolding control_type_of
returns-in-Unknown c = search tables depth 20
