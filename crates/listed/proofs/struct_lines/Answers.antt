-- Each turn writes the line of the entry that comes.
use Rattle.std.proofs.Common.{[], refl, subst}
use Rattle.std.specs.Io.KnownBytes.{Appends}
use Rattle.std.proofs.KnownBytes.{Appends-nil, Appends-trans}
use Rattle.listed.specs.Listing.{entry_line}
use Rattle.listed.proofs.Rows.{next_line, last_line}
use Rattle.listed.proofs.struct_lines.Goals as goal

pub loop-e-init : goal.loop-e-init
loop-e-init g c =
    let all = c.take-e-items.ensures in
    ([], Appends-nil _, rw (c.into_iter-e-iterator.ensures.into_iter_gives, all.count, all.source, c.iter.ensures.rest) refl)

pub loop-e-preserved : goal.loop-e-preserved
loop-e-preserved g c =
    let kept = c.loop-e.invariant in
    let step = c.in-Some.ensures.steps in
    (_, Appends-trans _ _ _ _ (entry_line c.in-Some.e.now) kept.1 c.in_ok-line.ensures, next_line _ _ _ _ _ _ _ step.0 step.1 kept.2)

pub returns : goal.returns
returns g c =
    let kept = c.loop-e.invariant in
    subst (Appends _ _) (last_line _ _ _ _ (λ h. (c.in-None.ensures.steps h).0) kept.2) kept.1
