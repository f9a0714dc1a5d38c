-- What each call answers, and what it leaves in the slice that it was lent. A slice that is too short is told first, by number 15, whatever the
-- other arguments are; then come document 01's numbers. Only number 0 changes what was lent.
use Rattle.std.specs.Prelude.{ℕ, Bool, List, length, leb, Option, Some, None}
use Rattle.wire.specs.Answer.{Ans, Carried, Numbered, numbered, carried_number, used_to}
use Rattle.wire.specs.Parser.{pick}
use Rattle.wire.specs.Answers.{reason_number}
use Rattle.wire.specs.declared.Need.{Need}
use Rattle.wire.specs.declared.Stop.{Stop}
use Rattle.wire.specs.declared.Halt.{Halt}
use Rattle.wire.specs.declared.Reason.{Reason}
use Rattle.filter.specs.declared.FilterError.{FilterError}
use Rattle.cursor.specs.Cursor.{turn}
use Rattle.cursor.specs.declared.Cursor.{Cursor}
use Rattle.cursor.specs.Raw.{raw_turn}
use Rattle.cursor.specs.declared.RawCursor.{RawCursor}
use Rattle.signals.specs.Signals.{signal_turn}
use Rattle.signals.specs.declared.SignalCursor.{SignalCursor}
use Rattle.parse.specs.Message as parse
use Rattle.parse.specs.Message.{message_of, numbered_answer}
use Rattle.parse.specs.declared.ParsedMessage.{ParsedMessage}
use Rattle.numbers.specs.Layout.{message_size, message_laid}
use Rattle.numbers.specs.Arguments.{argument_size, argument_laid}
use Rattle.numbers.specs.Raw.{raw_size, raw_laid}
use Rattle.index.specs.Index as index
use Rattle.index.specs.Index.{number_of, need_of, outcome}
use Rattle.exports.specs.declared.Answer.{Answer}
use Rattle.exports.specs.declared.IndexAnswer.{IndexAnswer}
use Rattle.cursor.specs.declared.HandedRaw.{HandedRaw}
use Rattle.signals.specs.declared.HandedSignal.{HandedSignal}
use Rattle.cursor.specs.declared.Handed.{Handed}

pub record Outcome : Type 0 where
  pub answer : Answer
  pub out : List ℕ

abbrev pub answered : ℕ → ℕ → ℕ → Answer
answered n value used = record { number = n; value = value; used = used }

-- a refusal as a host is told it: document 01's number, and the need or the reason
abbrev pub need_told : Need → Answer
need_told n = answered 2 n.0 0

abbrev pub reason_told : Reason → Answer
reason_told r = answered 3 (reason_number r) 0

abbrev pub stop_told : Stop → Answer
stop_told (Stop.Need n) = answered 2 n 0
stop_told (Stop.Hickup r) = reason_told r

abbrev pub halt_told : Halt → Answer
halt_told (Halt.Need n) = answered 2 n 0
halt_told (Halt.Hickup r) = reason_told r
halt_told Halt.Broken = answered 4 0 0

abbrev pub filter_told : FilterError → Answer
filter_told FilterError.Bad = answered 1 0 0
filter_told FilterError.Retired = answered 13 0 0

abbrev pub told : ℕ → ℕ → ℕ → List ℕ → Outcome
told n value used T = record { answer = answered n value used; out = T }

-- an answer for a host: document 01's number, what the answer carries (of a value what f makes of it), and the bytes used
abbrev pub shown : {A : Type 0} → (A → ℕ) → Numbered A → Answer
shown f a = answered a.number (carried_number f a.carries) (used_to a.carries)

-- and the lent slice T: only a value changes it, to what `laid` says
abbrev pub left_by : {A : Type 0} → (A → List ℕ) → List ℕ → Carried A → List ℕ
left_by laid T (Carried.value a b) = laid a
left_by laid T (Carried.need n) = T
left_by laid T (Carried.reason r) = T
left_by laid T Carried.nothing = T

abbrev pub shown_in : {A : Type 0} → (A → ℕ) → (A → List ℕ) → List ℕ → Numbered A → Outcome
shown_in f laid T a = record { answer = shown f a; out = left_by laid T a.carries }

-- too short
abbrev pub short : ℕ → List ℕ → Outcome
short size T = told 15 size 0 T

-- ---- dlt_message
unfoldable pub message_shown : List ℕ → parse.Answer ParsedMessage → Outcome
message_shown T x = shown_in (λ p. 0) (message_laid T) T (numbered_answer x)

unfoldable pub message_call : List ℕ → Bool → List ℕ → List ℕ → Outcome
message_call f stored s T = pick (leb message_size (length T)) (message_shown T (message_of f stored s)) (short message_size T)

-- ---- dlt_argument: value 1 and the numbers, or value 0 at the end
abbrev pub turn_number : Option Handed → ℕ
turn_number (Some h) = 1
turn_number None = 0

abbrev pub turn_laid : List ℕ → Option Handed → List ℕ
turn_laid T (Some h) = argument_laid T h.rest.at h.rest.left h.rest.big h.argument
turn_laid T None = T

unfoldable pub turn_shown : List ℕ → Ans (Option Handed) → Outcome
turn_shown T x = shown_in turn_number (turn_laid T) T (numbered x)

unfoldable pub argument_call : Cursor → List ℕ → List ℕ → Outcome
argument_call c s T = pick (leb argument_size (length T)) (turn_shown T (turn c s c.at)) (short argument_size T)

-- ---- dlt_raw_value, likewise: of a network trace's arguments the raw values alone
abbrev pub raw_number : Option HandedRaw → ℕ
raw_number (Some h) = 1
raw_number None = 0

abbrev pub raw_turn_laid : List ℕ → Option HandedRaw → List ℕ
raw_turn_laid T (Some h) = raw_laid T h.rest h.range
raw_turn_laid T None = T

unfoldable pub raw_shown : List ℕ → Ans (Option HandedRaw) → Outcome
raw_shown T x = shown_in raw_number (raw_turn_laid T) T (numbered x)

unfoldable pub raw_call : RawCursor → List ℕ → List ℕ → Outcome
raw_call c s T = pick (leb raw_size (length T)) (raw_shown T (raw_turn c s c.at)) (short raw_size T)

-- ---- dlt_signal, likewise
abbrev pub signal_number : Option HandedSignal → ℕ
signal_number (Some h) = 1
signal_number None = 0

abbrev pub signal_laid : List ℕ → Option HandedSignal → List ℕ
signal_laid T (Some h) = argument_laid T h.rest.at h.rest.word h.rest.big h.argument
signal_laid T None = T

unfoldable pub signal_shown : List ℕ → Ans (Option HandedSignal) → Outcome
signal_shown T x = shown_in signal_number (signal_laid T) T (numbered x)

unfoldable pub signal_call : List ℕ → SignalCursor → List ℕ → List ℕ → Outcome
signal_call words c s T = pick (leb argument_size (length T)) (signal_shown T (signal_turn words c s c.at)) (short argument_size T)

-- ---- dlt_index: document 01's number, the need, the state behind the call, the number taken; and the table as it leaves it
pub record IndexOutcome : Type 0 where
  pub answer : IndexAnswer
  pub table : List ℕ

unfoldable pub index_shown : index.Outcome ℕ → IndexOutcome
index_shown o = record {
  answer = record { number = number_of o.answer.end; need = need_of o.answer.end; at = o.answer.state.at; used = o.answer.state.used; taken = o.answer.taken };
  table = o.table;
}

unfoldable pub index_call : List ℕ → ℕ → List ℕ → ℕ → ℕ → List ℕ → IndexOutcome
index_call f n s at used T = index_shown (outcome f n s (record { at = at; used = used }) T)

-- ---- the calls that are lent nothing to write into
-- dlt_forward_to_next_storage_header: value 1 and the place, or 0
abbrev pub found_answer : Option ℕ → Answer
found_answer (Some i) = answered 0 1 i
found_answer None = answered 0 0 0

-- dlt_consume_msg: the count, 0 where there is none
abbrev pub count_number : Option ℕ → ℕ
count_number (Some n) = n
count_number None = 0

unfoldable pub consume_answer : Ans (Option ℕ) → Answer
consume_answer x = shown count_number (numbered x)

-- dlt_construct_arguments: how many
unfoldable pub construct_answer : Ans ℕ → Answer
construct_answer x = shown (λ n. n) (numbered x)
