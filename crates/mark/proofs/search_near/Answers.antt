-- `mark::search_near` meets its contract: by what a front part of the bytes tells of them all.
use native.Mathlib.Omega.{arith}
use mathlib.Core.Path.{◌≡◌, sym, ◌∙◌}
use Prim.Native.Nat.{◌+◌, ◌-◌}
use lib.ListN.{take, length-take}
use Rattle.mark.specs.First.{pattern, find}
use Rattle.mark.proofs.Blocks.{part_found, part_none}
use Rattle.mark.proofs.search_near.Goals as goal
use Rattle.std.specs.Prelude.{Some, None}

pub slice_bounds-part-end : goal.slice_bounds-part-end
slice_bounds-part-end c = rw length-take (omega arith)

pub returns-in-Some : goal.returns-in-Some
returns-in-Some c =
    let a = c.args in
    let h : find pattern (take (a.at + 19) a.s.now) a.at ≡ Some c.in-Some.i = cc in
    sym (part_found pattern a.s.now (a.at + 19) a.at (omega arith) _ h)

pub returns-in-None : goal.returns-in-None
returns-in-None c =
    let a = c.args in
    let h : find pattern (take (a.at + 19) a.s.now) a.at ≡ None = cc in
    let q : a.at + 19 - 3 ≡ a.at + 16 = omega arith in
    c.search_far.ensures ∙ sym (rw q at (part_none pattern a.s.now (a.at + 19) a.at (omega arith) (omega arith) (omega arith) h))
