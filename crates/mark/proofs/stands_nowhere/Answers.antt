-- `mark::stands_nowhere` meets its contract. The loop's invariant: where none was there so far, the first place from `at` on is the first from `at + k` on.
use native.Mathlib.Omega.{arith}
use native.Mathlib.Nat.{add-zero}
use mathlib.Core.Path.{◌≡◌, refl, sym, ◌∙◌}
use Rattle.mark.specs.First.{pattern}
use Rattle.mark.proofs.Blocks.{none_next}
use Rattle.mark.proofs.stands_nowhere.Goals as goal

pub loop-k-init : goal.loop-k-init
loop-k-init c = (omega arith, λ e. rw add-zero)

pub loop-k-preserved : goal.loop-k-preserved
loop-k-preserved c =
    let l = c.loop-k in
    (omega arith, λ e. none_next pattern _ _ _ l.k l.none c.same_bytes-here.result (omega arith) refl (omega arith) (λ h. sym c.same_bytes-here.ensures ∙ h) l.invariant.1 (sym c.still_none-none.ensures ∙ e))

pub returns : goal.returns
returns c =
    λ e.
    let l = c.loop-k in
    let q : c.args.n ≡ l.k = omega arith in
    rw q (l.invariant.1 e)
