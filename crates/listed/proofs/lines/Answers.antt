-- Each turn writes the line of the four numbers that come.
use Rattle.std.proofs.Common.{[], refl, subst, ◌∙◌}
use Rattle.std.specs.Io.KnownBytes.{Appends}
use Rattle.std.proofs.KnownBytes.{Appends-nil, Appends-trans}
use Rattle.listed.specs.Listing.{entry_line}
use Rattle.listed.proofs.Rows.{next_line, last_line, entry_of, entry_next, entry_none}
use Rattle.listed.proofs.lines.Goals as goal

pub loop-e-init : goal.loop-e-init
loop-e-init g c =
    let all = c.take-e-items.ensures in
    let start = c.into_iter-e-iterator.ensures.into_iter_gives in
    ([], Appends-nil _, rw (start, all.count, all.source, c.chunks_exact.ensures.rest) refl, rw (start, all.source) c.chunks_exact.ensures.size)

pub loop-e-preserved : goal.loop-e-preserved
loop-e-preserved g c =
    let kept = c.loop-e.invariant in
    let step = c.in-Some.ensures.steps in
    let here = entry_next _ c.in-Some.e.now _ _ step.0.1.0 step.0.1.1 kept.3 in
    (_, Appends-trans _ _ _ _ (entry_line (entry_of c.in-Some.e.now)) kept.1 c.in_ok-line.ensures, next_line _ _ _ _ _ _ _ here step.1 kept.2, step.0.0 ∙ kept.3)

pub returns : goal.returns
returns g c =
    let kept = c.loop-e.invariant in
    subst (Appends _ _) (last_line _ _ _ _ (λ h. entry_none _ _ (c.in-None.ensures.steps h).1.0 kept.3) kept.2) kept.1
