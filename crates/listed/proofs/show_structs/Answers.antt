-- The heading, the lines of the entries and the last line are the listing.
use Rattle.std.proofs.Common.{subst}
use Rattle.std.specs.Io.KnownBytes.{Appends}
use Rattle.std.proofs.KnownBytes.{Appends-trans}
use Rattle.listed.proofs.Whole.{on_ok, by_structs}
use Rattle.listed.proofs.show_structs.Goals as goal

pub returns : goal.returns
returns g c =
    let same = by_structs _ c.fill-got.result.answer c.fill-got.result.table c.fill-got.ensures in
    on_ok c.ending.result (λ last. subst (Appends _ _) same (Appends-trans _ _ _ _ _ c.in_ok-heading.ensures (Appends-trans _ _ _ _ _ c.in_ok-struct_lines.ensures last))) c.ending.ensures
