-- Document 01, "Hickup reasons": which of them each call gives.
use Rattle.std.specs.Prelude.{ℕ, ◌≡◌, Bool, true, false, List, [], ◌∷◌, eqb, Option}
use Rattle.wire.specs.Answer.{Carried, Numbered, numbered}
use Rattle.wire.specs.Parser.{pick}
use Rattle.storage.specs.Consume.{skip, consume}
use Rattle.cursor.specs.Cursor.{turn}
use Rattle.cursor.specs.Raw.{raw_turn}
use Rattle.cursor.specs.declared.Cursor.{Cursor}
use Rattle.cursor.specs.declared.RawCursor.{RawCursor}
use Rattle.signals.specs.Signals.{constructed, signal_turn}
use Rattle.signals.specs.declared.SignalCursor.{SignalCursor}
use Rattle.parse.specs.Message.{message_of, numbered_answer}
use Rattle.parse.specs.declared.ParsedMessage.{ParsedMessage}
use Rattle.confined.specs.Confined.{confined_message_of_lem}
use Rattle.confined.specs.declared.ConfinedMessage.{ConfinedMessage}
use Rattle.cursor.specs.declared.HandedRaw.{HandedRaw}
use Rattle.signals.specs.declared.HandedSignal.{HandedSignal}
use Rattle.cursor.specs.declared.Handed.{Handed}

abbrev pub is_one_of : ℕ → List ℕ → Bool
is_one_of r [] = false
is_one_of r (a ∷ rest) = pick (eqb r a) true (is_one_of r rest)

-- some input is answered with this reason
abbrev pub Comes : {I A : Type 0} → (I → Numbered A) → ℕ → Type 0
Comes {I} call r = (i : I) × ((call i).carries ≡ Carried.reason r)

abbrev pub EachComes : {I A : Type 0} → (I → Numbered A) → List ℕ → Type 0
EachComes call [] = Unit
EachComes call (r ∷ rest) = Comes call r × EachComes call rest

-- these reasons come out of a call, and no others
pub record Exactly {I A : Type 0} (call : I → Numbered A) (reasons : List ℕ) : Type 0 where
  pub only : (i : I) (r : ℕ) → (call i).carries ≡ Carried.reason r → is_one_of r reasons ≡ true
  pub each : EachComes call reasons

-- ---- the calls that can answer Hickup, by their contracts, each over all that it is given
-- `dlt_message`: the filter's bytes, storage mode or not, the bytes
abbrev pub message_call : List ℕ × Bool × List ℕ → Numbered ParsedMessage
message_call i = numbered_answer (message_of i.0 i.1 i.2)

-- `confined_message`: the same
abbrev pub confined_call : List ℕ × Bool × List ℕ → Numbered ConfinedMessage
confined_call i = numbered_answer (confined_message_of_lem i.0 i.1 i.2)

-- `Cursor::next` and `RawCursor::next`: the cursor, the bytes
abbrev pub cursor_call : Cursor × List ℕ → Numbered (Option Handed)
cursor_call i = numbered (turn i.0 i.1 i.0.at)

abbrev pub raw_call : RawCursor × List ℕ → Numbered (Option HandedRaw)
raw_call i = numbered (raw_turn i.0 i.1 i.0.at)

-- `skip_storage_header` and `dlt_consume_msg`: the bytes, and where they are asked
abbrev pub skip_call : List ℕ × ℕ → Numbered ℕ
skip_call i = numbered (skip i.0 i.1)

abbrev pub consume_call : List ℕ × ℕ → Numbered (Option ℕ)
consume_call i = numbered (consume i.0 i.1)

-- `construct_arguments`: the byte order, the words, the signal data; `SignalCursor::next`: the cursor, the words, the signal data
abbrev pub construct_call : Bool × List ℕ × List ℕ → Numbered ℕ
construct_call i = numbered (constructed i.0 i.1 i.2 0)

abbrev pub signal_call : SignalCursor × List ℕ × List ℕ → Numbered (Option HandedSignal)
signal_call i = numbered (signal_turn i.1 i.0 i.2 i.0.at)

-- ---- and their reasons
abbrev pub message_reasons : List ℕ
message_reasons = 1 ∷ 2 ∷ []

abbrev pub argument_reasons : List ℕ
argument_reasons = 2 ∷ []

abbrev pub skip_reasons : List ℕ
skip_reasons = 4 ∷ []

abbrev pub consume_reasons : List ℕ
consume_reasons = 1 ∷ 4 ∷ []

abbrev pub signal_reasons : List ℕ
signal_reasons = 2 ∷ 5 ∷ 6 ∷ 7 ∷ []
