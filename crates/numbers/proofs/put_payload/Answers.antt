-- `numbers::put_payload` meets its contract: `search` goes through the rule as the code does.
use Rattle.numbers.proofs.Rows.{rows}
use Rattle.numbers.specs.Layout.{payload_numbers}
use Rattle.numbers.proofs.put_payload.Goals as goal

pub returns-in-Verbose : goal.returns-in-Verbose
unfolding payload_numbers
returns-in-Verbose c = search rows depth 20

pub returns-in-NonVerbose : goal.returns-in-NonVerbose
unfolding payload_numbers
returns-in-NonVerbose c = search rows depth 20

pub returns-in-ControlMsg : goal.returns-in-ControlMsg
unfolding payload_numbers
returns-in-ControlMsg c = search rows depth 20

pub returns-in-NetworkTrace : goal.returns-in-NetworkTrace
unfolding payload_numbers
returns-in-NetworkTrace c = search rows depth 20
