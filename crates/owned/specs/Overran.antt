-- docs/RULES.md, "The confined reading": where the declared bytes end, and what an overrun says.
use Rattle.std.specs.Prelude.{ℕ, ◌+◌, ◌≡◌, Bool, List, take}
use Rattle.wire.specs.Answer.Ans.{done}
use Rattle.wire.specs.Lawful.{Waits}
use Rattle.filter.specs.declared.Filter.{Filter}
use Rattle.parse.specs.Message.{routed, message}
use Rattle.parse.specs.declared.Headers.{Headers}

-- the declared end of a message whose headers end at n
abbrev pub end_of : Headers → ℕ → ℕ
end_of h n = n + h.header.payload_length

-- the headers are read, k is the payload length and e the declared end, and over the bytes up to that end `dlt_message` waits
pub record Overran (f : List ℕ) (filter : Filter) (stored : Bool) (s : List ℕ) (k e : ℕ) : Type 0 where
  pub heads : Headers
  pub behind : ℕ
  pub read : routed f filter stored s 0 ≡ done heads behind
  pub size : k ≡ heads.header.payload_length
  pub end : e ≡ end_of heads behind
  pub waits : Waits (message f filter stored (take e s) 0)
