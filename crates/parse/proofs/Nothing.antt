-- Of no bytes the headers need one: the type byte.
use Prim.Native.Nat.{ℕ, ◌≤◌}
use native.Mathlib.Omega.{arith}
use mathlib.Core.Path.{◌≡◌, ap, ◌∙◌}
use mathlib.Core.List.{List}
use lib.ListN.{length}
use Rattle.wire.specs.Answer.Ans.{need}
use Rattle.wire.specs.Parser.{here, lacking}
use Rattle.wire.specs.Number.{number}
use Rattle.wire.proofs.Step.{then_done, then_need, fixed_need, here_is}
use Rattle.headers.specs.Standard.{standard}
use Rattle.filter.specs.declared.Filter.{Filter}
use Rattle.parse.specs.Message.{headers}
use Rattle.std.specs.Prelude.{Option}
use Rattle.storage.specs.declared.Stored.{Stored}

pub standard_of_nothing : (s : List ℕ) (at : ℕ) → length s ≤ at → standard s at ≡ need 1
unfolding standard number
standard_of_nothing s at h =
    let z : lacking 1 s at ≡ 1 = omega arith in
    then_need _ _ s at (fixed_need 1 _ s at (omega arith)) ∙ ap need z

pub headers_of_nothing : (f : List ℕ) (filter : Filter) (stored : Option Stored) (s : List ℕ) → headers f filter stored s (length s) ≡ need 1
unfolding headers
headers_of_nothing f filter stored s =
    then_done here _ s (length s) (here_is s (length s)) ∙ then_need standard _ s (length s) (standard_of_nothing s (length s) (omega arith))
