-- docs/RULES.md, "The confined reading": one message that sees its declared bytes and no others.
use Rattle.std.specs.Prelude.{ℕ, ◌+◌, Bool, List, take}
use Rattle.wire.specs.Answer.{Ans, Parser}
use Rattle.wire.specs.Answer.Ans.{done, need, hickup, broken}
use Rattle.wire.specs.Parser.{ret, having, ◌>>=◌}
use Rattle.filter.specs.Filter.{filter_of}
use Rattle.filter.specs.declared.Filter.{Filter}
use Rattle.parse.specs.Message.{routed, body, Answer, judged}
use Rattle.parse.specs.declared.Headers.{Headers}
use Rattle.parse.specs.declared.ParsedMessage.{ParsedMessage}
use Rattle.confined.specs.declared.ConfinedMessage.{ConfinedMessage}

-- what a rule answers that was shown a part of the bytes alone: the part is used up, however early the value ends, and bytes that are lacking there never
-- come, so that the answer is the value `over`
abbrev pub shut : {A : Type 0} → A → ℕ → Ans A → Ans A
shut over end (done a b) = done a end
shut over end (need n) = done over end
shut over end (hickup r) = hickup r
shut over end broken = broken

-- p over n bytes and no others, once they are there
unfoldable pub confined : {A : Type 0} → ℕ → A → Parser A → Parser A
confined n over p = having n (λ s at. shut over (at + n) (p (take (at + n) s) at))

-- item and filtered are what they are
unfoldable pub inside_of_lem : ParsedMessage → ConfinedMessage
inside_of_lem (ParsedMessage.Item m) = ConfinedMessage.Item m
inside_of_lem (ParsedMessage.FilteredOut n) = ConfinedMessage.FilteredOut n

-- what follows the headers, of whatever bytes it is shown
unfoldable pub inside : Headers → Parser ConfinedMessage
inside h = do
  m ← body h
  ret (inside_of_lem m)

abbrev pub overrun : ℕ → ConfinedMessage
overrun n = ConfinedMessage.Overrun n

-- step 7 over the declared payload: what lacks bytes there is an overrun, which answers the payload length
unfoldable pub confined_body_of : Headers → Parser ConfinedMessage
confined_body_of h = confined h.header.payload_length (overrun h.header.payload_length) (inside h)

-- steps 2 to 6 as they stand, and then that
unfoldable pub confined_message_of : List ℕ → Filter → Bool → Parser ConfinedMessage
confined_message_of f filter stored = routed f filter stored >>= confined_body_of

-- step 1 before anything else
unfoldable pub confined_message_of_lem : List ℕ → Bool → List ℕ → Answer ConfinedMessage
confined_message_of_lem f stored s = judged (λ filter. confined_message_of f filter stored s 0) (filter_of f)
