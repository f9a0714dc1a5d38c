-- `reals::parse_f64` meets its contract: `search` goes through the rule as the code does.
use Rattle.wire.proofs.Reading.{reading}
use Rattle.wire.specs.Number.{numeric}
use Rattle.reals.specs.Real.{float64}
use Rattle.reals.proofs.parse_f64.Goals as goal

pub returns-in_err-bits : goal.returns-in_err-bits
unfolding float64 numeric
returns-in_err-bits c = search reading depth 20

pub returns : goal.returns
unfolding float64 numeric
returns c = search reading depth 20
