-- What a call stopped with, where the code tells it apart and hands it on by itself. The edits of must-fail/ go by these.
use Prim.Native.Nat.{ℕ}
use mathlib.Core.Path.{◌≡◌}
use mathlib.Core.Bool.{Bool}
use mathlib.Core.List.{List}
use Rattle.std.specs.Prelude.{Option}
use Rattle.wire.specs.Answer.Ans.{need, hickup}
use Rattle.wire.proofs.Reading.{by_need, by_hickup, by_here}
use Rattle.headers.specs.Standard.{standard}
use Rattle.filter.specs.declared.Filter.{Filter}
use Rattle.storage.specs.declared.Stored.{Stored}
use Rattle.parse.specs.Message.{headers, routed, body, message}

module _ (f : List ℕ) (filter : Filter) (s : List ℕ) (at : ℕ) where
  -- a need of the headers
  pub message_need : (stored : Bool) (n : ℕ) → need n ≡ routed f filter stored s at → need n ≡ message f filter stored s at
  unfolding message
  message_need stored n e = by_need (routed f filter stored) body s at n e

  -- a hickup of the standard header
  pub headers_hickup : (stored : Option Stored) (r : ℕ) → hickup r ≡ standard s at → hickup r ≡ headers f filter stored s at
  unfolding headers
  headers_hickup stored r e = by_here _ s at _ (by_hickup standard _ s at r e)
