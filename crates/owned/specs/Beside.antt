-- What `dlt_message` answers over the same bytes, beside an answer of the confined reading.
use Rattle.std.specs.Prelude.{ℕ, ◌≤◌, ◌<◌, ◌≡◌}
use Rattle.wire.specs.Answer.{Ans}
use Rattle.wire.specs.Answer.Ans.{done, need, hickup, broken}
use Rattle.parse.specs.Message.{Answer}
use Rattle.parse.specs.declared.ParsedMessage.{ParsedMessage}
use Rattle.confined.specs.declared.ConfinedMessage.{ConfinedMessage}

-- a value, if it is one, ends past e
abbrev pub Past : ℕ → Ans ParsedMessage → Type 0
Past e (done m b) = e < b
Past e (need n) = Unit
Past e (hickup r) = Unit
Past e broken = Unit

-- the same answer; but an item may end before the declared end, and beside an overrun stands nothing that ends within the declared bytes
abbrev pub Beside : Ans ConfinedMessage → Ans ParsedMessage → Type 0
Beside (done (ConfinedMessage.Item m) e) y = (b : ℕ) × (y ≡ done (ParsedMessage.Item m) b) × (b ≤ e)
Beside (done (ConfinedMessage.FilteredOut k) e) y = y ≡ done (ParsedMessage.FilteredOut k) e
Beside (done (ConfinedMessage.Overrun k) e) y = Past e y
Beside (need n) y = y ≡ need n
Beside (hickup r) y = y ≡ hickup r
Beside broken y = y ≡ broken

-- the same of the whole call
abbrev pub BesideCall : Answer ConfinedMessage → Answer ParsedMessage → Type 0
BesideCall Answer.bad_filter y = y ≡ Answer.bad_filter
BesideCall Answer.retired_tag y = y ≡ Answer.retired_tag
BesideCall (Answer.answered x) y = (z : Ans ParsedMessage) × (y ≡ Answer.answered z) × Beside x z
