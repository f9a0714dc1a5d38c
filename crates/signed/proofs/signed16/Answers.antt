use native.Mathlib.Omega.{arith}
use mir.Syntax.{w16}
use Rattle.signed.proofs.Complement.{lower, upper_fits, upper}
use Rattle.signed.proofs.signed16.Goals as goal

pub returns-then-b-lt32768 : goal.returns-then-b-lt32768
returns-then-b-lt32768 c = lower w16 c.args.b (omega arith)

pub overflow_sub-result-2 : goal.overflow_sub-result-2
overflow_sub-result-2 c = upper_fits w16 c.args.b (omega arith) (omega arith)

pub returns : goal.returns
returns c = upper w16 c.args.b (omega arith) (omega arith)
