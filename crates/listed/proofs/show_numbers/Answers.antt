-- The heading, the lines of the entries and the last line are the listing.
use Rattle.std.proofs.Common.{subst}
use Rattle.std.specs.Io.KnownBytes.{Appends}
use Rattle.std.proofs.KnownBytes.{Appends-trans}
use Rattle.listed.proofs.Whole.{on_ok, by_numbers}
use Rattle.listed.proofs.show_numbers.Goals as goal

pub returns : goal.returns
returns g c =
    let same = by_numbers _ c.table_room-table.result c.index-got.result c.index-got.new.table c.table_room-table.ensures.zeros c.index-got.ensures in
    on_ok c.ending.result (λ last. subst (Appends _ _) same (Appends-trans _ _ _ _ _ c.in_ok-heading.ensures (Appends-trans _ _ _ _ _ c.in_ok-lines.ensures last))) c.ending.ensures
