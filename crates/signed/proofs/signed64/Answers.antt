use native.Mathlib.Omega.{arith}
use mir.Syntax.{w64}
use Rattle.signed.proofs.Complement.{lower, upper_fits, upper}
use Rattle.signed.proofs.signed64.Goals as goal

pub returns-then-b-lt9223372036854775808 : goal.returns-then-b-lt9223372036854775808
returns-then-b-lt9223372036854775808 c = lower w64 c.args.b (omega arith)

pub returns : goal.returns
returns c = upper w64 c.args.b (omega arith) (omega arith)

pub overflow_sub-result-2 : goal.overflow_sub-result-2
overflow_sub-result-2 c = upper_fits w64 c.args.b (omega arith) (omega arith)
