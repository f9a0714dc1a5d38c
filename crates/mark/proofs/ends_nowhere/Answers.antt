-- `mark::ends_nowhere` meets its contract. The loop's invariant: where none was there so far, the first place from `at` on is the first from `at + j` on.
use native.Mathlib.Omega.{arith}
use native.Mathlib.Nat.{add-zero}
use mathlib.Core.Path.{◌≡◌, refl, sym, ◌∙◌}
use Rattle.mark.specs.First.{pattern}
use Rattle.mark.proofs.Blocks.{none_next, ends_not}
use Rattle.mark.proofs.ends_nowhere.Goals as goal

pub loop-j-init : goal.loop-j-init
loop-j-init c = (omega arith, λ e. rw add-zero)

pub loop-j-preserved : goal.loop-j-preserved
loop-j-preserved c =
    let l = c.loop-j in
    (omega arith, λ e. none_next pattern _ _ _ l.j l.none c.is_end-here.result (omega arith) refl (omega arith) (λ h. ends_not pattern _ _ _ _ (omega arith) (sym c.is_end-here.ensures ∙ h)) l.invariant.1 (sym c.still_none-none.ensures ∙ e))

pub returns : goal.returns
returns c =
    λ e.
    let l = c.loop-j in
    let q : c.args.n ≡ l.j = omega arith in
    rw q (l.invariant.1 e)
