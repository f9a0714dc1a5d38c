use native.Mathlib.Omega.{arith}
use lib.ListN.{length-set}
use Rattle.index.proofs.Laws.{put_over}
use Rattle.index.proofs.put.Goals as goal

pub bounds-table-i-2 : goal.bounds-table-i-2
bounds-table-i-2 c = simp length-set (omega arith)

pub bounds-table-i-3 : goal.bounds-table-i-3
bounds-table-i-3 c = simp length-set (omega arith)

pub bounds-table-i-4 : goal.bounds-table-i-4
bounds-table-i-4 c = simp length-set (omega arith)

pub returns : goal.returns
returns c = put_over _ _ _ _ _ _ c.requires
