-- What is kept of a filter stands in its bytes: r is what `without_counts` answered, c the cut that was matched. Assumes nothing.
use Prim.Native.Nat.{ℕ, ◌≤◌}
use mathlib.Core.Path.{◌≡◌, sym, ◌∙◌}
use mathlib.Core.List.{List}
use lib.ListN.{length}
use Rattle.retired.specs.Rewrite.{rewrite_of}
use Rattle.retired.specs.declared.Cut.{Cut}
use Rattle.filter.specs.declared.BadFilter.{BadFilter}
use Rattle.std.specs.Prelude.{Result, Ok}
use Rattle.retired.proofs.Rewriting.{kept_within}

module _ (f : List ℕ) (r : Result Cut BadFilter) (c : Cut) (e : r ≡ rewrite_of f) (q : r ≡ Ok c) where
  pub front_fits : c.kept ≤ length f
  front_fits = (kept_within f c (sym e ∙ q)).0

  pub front_small : c.kept ≤ 781
  front_small = (kept_within f c (sym e ∙ q)).1
