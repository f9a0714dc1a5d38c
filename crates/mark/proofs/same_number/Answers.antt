-- `mark::same_number` meets its contract: by the numbers that the four bytes and the pattern make.
use native.Mathlib.Omega.{arith}
use mathlib.Core.Path.{sym, ◌∙◌}
use Rattle.mark.proofs.Blocks.{joined_hit, joined_miss}
use Rattle.mark.proofs.same_number.Goals as goal

pub returns-then-here-wanted : goal.returns-then-here-wanted
returns-then-here-wanted c =
    let a = c.args in
    let f = c.ranges in
    sym
    (joined_hit a.a a.b a.c a.d 0x44 0x4C 0x54 0x01 (omega (arith, f.a)) (omega (arith, f.b)) (omega (arith, f.c)) (omega (arith, f.d))
    (omega arith) (omega arith) (omega arith) (omega arith)
    (sym c.joined-here.ensures ∙ c.if-here-wanted.true ∙ c.joined-wanted.ensures))

pub returns : goal.returns
returns c =
    let a = c.args in
    sym (joined_miss a.a a.b a.c a.d 0x44 0x4C 0x54 0x01 (λ e. c.if-here-wanted.false (c.joined-here.ensures ∙ e ∙ sym c.joined-wanted.ensures)))
