-- `values::dlt_sint` meets its contract: `search` goes through the rule as the code does.
use Rattle.values.proofs.Reading.{signs}
use Rattle.values.proofs.dlt_sint.Goals as goal

pub returns-in_err-num-in-BitLength8 : goal.returns-in_err-num-in-BitLength8
returns-in_err-num-in-BitLength8 c = search signs depth 20

pub returns-in_err-num-in-BitLength16 : goal.returns-in_err-num-in-BitLength16
returns-in_err-num-in-BitLength16 c = search signs depth 20

pub returns-in_err-num-in-BitLength32 : goal.returns-in_err-num-in-BitLength32
returns-in_err-num-in-BitLength32 c = search signs depth 20

pub returns-in_err-num-in-BitLength64 : goal.returns-in_err-num-in-BitLength64
returns-in_err-num-in-BitLength64 c = search signs depth 20

pub returns-in_ok-num-in-BitLength8 : goal.returns-in_ok-num-in-BitLength8
returns-in_ok-num-in-BitLength8 c = search signs depth 20

pub returns-in_ok-num-in-BitLength16 : goal.returns-in_ok-num-in-BitLength16
returns-in_ok-num-in-BitLength16 c = search signs depth 20

pub returns-in_ok-num-in-BitLength32 : goal.returns-in_ok-num-in-BitLength32
returns-in_ok-num-in-BitLength32 c = search signs depth 20

pub returns-in_ok-num-in-BitLength64 : goal.returns-in_ok-num-in-BitLength64
returns-in_ok-num-in-BitLength64 c = search signs depth 20
