use native.Mathlib.Omega.{arith}
use Rattle.index.proofs.Laws.{split_sum, over_by_itself}
use Rattle.index.proofs.too_long.Goals as goal

pub returns-then-from-gt4294967295 : goal.returns-then-from-gt4294967295
returns-then-from-gt4294967295 c = over_by_itself 4294967295 c.args.from c.args.n (omega arith)

pub returns : goal.returns
returns c = split_sum 4294967295 c.args.from c.args.n (omega arith)
