use native.Mathlib.Omega.{arith}
use mir.Syntax.{w32}
use Rattle.signed.proofs.Complement.{lower, upper_fits, upper}
use Rattle.signed.proofs.signed32.Goals as goal

pub returns-then-b-lt2147483648 : goal.returns-then-b-lt2147483648
returns-then-b-lt2147483648 c = lower w32 c.args.b (omega arith)

pub overflow_sub-result-2 : goal.overflow_sub-result-2
overflow_sub-result-2 c = upper_fits w32 c.args.b (omega arith) (omega arith)

pub returns : goal.returns
returns c = upper w32 c.args.b (omega arith) (omega arith)
