-- `mark::next_place` meets its contract: a place that was found is below the length.
use native.Mathlib.Omega.{arith}
use mathlib.Core.Path.{◌≡◌}
use Rattle.mark.specs.First.{pattern, find}
use Rattle.mark.proofs.Laws.{found_within}
use Rattle.mark.proofs.next_place.Goals as goal
use Rattle.std.specs.Prelude.{Some, None}

pub returns-in-Some : goal.returns-in-Some
returns-in-Some c =
    let a = c.args in
    let h : find pattern a.s.now a.at ≡ Some c.in-Some.i = cc in
    (λ l. h, λ l. absurd (omega (arith, found_within pattern a.s.now a.at _ (omega arith) h)))

pub returns-in-None : goal.returns-in-None
returns-in-None c =
    let a = c.args in
    let h : find pattern a.s.now a.at ≡ None = cc in
    (λ l. absurd (omega arith), λ l. h)
