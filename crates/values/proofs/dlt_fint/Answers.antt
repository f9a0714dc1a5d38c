-- `values::dlt_fint` meets its contract: `search` goes through the rule as the code does.
use Rattle.values.proofs.Reading.{floats}
use Rattle.values.proofs.dlt_fint.Goals as goal

pub returns-in_err-num-in-Width32 : goal.returns-in_err-num-in-Width32
returns-in_err-num-in-Width32 c = search floats depth 20

pub returns-in_err-num-in-Width64 : goal.returns-in_err-num-in-Width64
returns-in_err-num-in-Width64 c = search floats depth 20

pub returns-in_ok-num-in-Width32 : goal.returns-in_ok-num-in-Width32
returns-in_ok-num-in-Width32 c = search floats depth 20

pub returns-in_ok-num-in-Width64 : goal.returns-in_ok-num-in-Width64
returns-in_ok-num-in-Width64 c = search floats depth 20
