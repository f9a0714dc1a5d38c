-- What is kept of a filter stands in its bytes, and the fields behind it at small positions.
use Rattle.std.proofs.Common.{sym, length-take-le}
use Rattle.retired.proofs.Rewriting.{kept_within}
use Rattle.rewritten.proofs.show.Goals as goal

pub slice_bounds-write_all-end : goal.slice_bounds-write_all-end
slice_bounds-write_all-end g c = sym (length-take-le _ _ (kept_within _ _ (sym c.in-Ok.ensures)).0)

pub removed-requires : goal.removed-requires
removed-requires g c = (kept_within _ _ (sym c.in-Ok.ensures)).1
