-- `values::dlt_uint` meets its contract: `search` goes through the rule as the code does.
use Rattle.values.proofs.Reading.{uints}
use Rattle.values.specs.Value.{uint, unsigned_of}
use Rattle.wire.specs.Number.{numeric}
use Rattle.values.proofs.dlt_uint.Goals as goal

pub returns-in_err-num-in-BitLength8 : goal.returns-in_err-num-in-BitLength8
unfolding uint unsigned_of numeric
returns-in_err-num-in-BitLength8 c = search uints depth 20

pub returns-in_err-num-in-BitLength16 : goal.returns-in_err-num-in-BitLength16
unfolding uint unsigned_of numeric
returns-in_err-num-in-BitLength16 c = search uints depth 20

pub returns-in_err-num-in-BitLength32 : goal.returns-in_err-num-in-BitLength32
unfolding uint unsigned_of numeric
returns-in_err-num-in-BitLength32 c = search uints depth 20

pub returns-in_err-num-in-BitLength64 : goal.returns-in_err-num-in-BitLength64
unfolding uint unsigned_of numeric
returns-in_err-num-in-BitLength64 c = search uints depth 20

pub returns-in_ok-num-in-BitLength8 : goal.returns-in_ok-num-in-BitLength8
unfolding uint unsigned_of numeric
returns-in_ok-num-in-BitLength8 c = search uints depth 20

pub returns-in_ok-num-in-BitLength16 : goal.returns-in_ok-num-in-BitLength16
unfolding uint unsigned_of numeric
returns-in_ok-num-in-BitLength16 c = search uints depth 20

pub returns-in_ok-num-in-BitLength32 : goal.returns-in_ok-num-in-BitLength32
unfolding uint unsigned_of numeric
returns-in_ok-num-in-BitLength32 c = search uints depth 20

pub returns-in_ok-num-in-BitLength64 : goal.returns-in_ok-num-in-BitLength64
unfolding uint unsigned_of numeric
returns-in_ok-num-in-BitLength64 c = search uints depth 20
