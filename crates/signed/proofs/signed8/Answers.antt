use native.Mathlib.Omega.{arith}
use mir.Syntax.{w8}
use Rattle.signed.proofs.Complement.{lower, upper_fits, upper}
use Rattle.signed.proofs.signed8.Goals as goal

pub returns-then-b-lt128 : goal.returns-then-b-lt128
returns-then-b-lt128 c = lower w8 c.args.b (omega arith)

pub overflow_sub-result-2 : goal.overflow_sub-result-2
overflow_sub-result-2 c = upper_fits w8 c.args.b (omega arith) (omega arith)

pub returns : goal.returns
returns c = upper w8 c.args.b (omega arith) (omega arith)
