-- `values::dlt_fixed_point` meets its contract: `search` goes through the rule as the code does.
use Rattle.values.proofs.Reading.{points}
use Rattle.values.specs.Value.{fixed_point_of}
use Rattle.values.proofs.dlt_fixed_point.Goals as goal

pub returns-in_err-bits : goal.returns-in_err-bits
unfolding fixed_point_of
returns-in_err-bits c = search points depth 20

pub returns-in_err-offset-in-Width32 : goal.returns-in_err-offset-in-Width32
unfolding fixed_point_of
returns-in_err-offset-in-Width32 c = search points depth 20

pub returns-in_err-offset-in-Width64 : goal.returns-in_err-offset-in-Width64
unfolding fixed_point_of
returns-in_err-offset-in-Width64 c = search points depth 20

pub returns-in_ok-offset-in-Width32 : goal.returns-in_ok-offset-in-Width32
unfolding fixed_point_of
returns-in_ok-offset-in-Width32 c = search points depth 20

pub returns-in_ok-offset-in-Width64 : goal.returns-in_ok-offset-in-Width64
unfolding fixed_point_of
returns-in_ok-offset-in-Width64 c = search points depth 20
