-- What a call stopped with, where the code tells it apart and hands it on by itself. The edits of must-fail/ go by this.
use Prim.Native.Nat.{ℕ}
use mathlib.Core.Path.{◌≡◌}
use mathlib.Core.Bool.{Bool}
use mathlib.Core.List.{List}
use Rattle.wire.specs.Answer.Ans.{hickup}
use Rattle.wire.proofs.Reading.{by_hickup}
use Rattle.filter.specs.declared.Filter.{Filter}
use Rattle.parse.specs.Message.{routed}
use Rattle.confined.specs.Confined.{confined_body_of, confined_message_of}

-- a hickup of the headers
pub confined_hickup : (f : List ℕ) (filter : Filter) (stored : Bool) (s : List ℕ) (at r : ℕ) → hickup r ≡ routed f filter stored s at → hickup r ≡ confined_message_of f filter stored s at
unfolding confined_message_of
confined_hickup f filter stored s at r e = by_hickup (routed f filter stored) confined_body_of s at r e
