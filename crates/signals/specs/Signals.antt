-- The arguments of a list of type info words, and a cursor over them: document 01, "`construct_arguments` differs", "Words that don't
-- decode are Hickup 2 when reached", and "a cursor hands out one record per call".
use Rattle.std.specs.Prelude.{ℕ, ◌+◌, Bool, List, [], ◌∷◌, length, get_or, ltb, Result, Ok, Err, Option, Some, None}
use Rattle.wire.specs.Answer.{Ans, Parser}
use Rattle.wire.specs.Answer.Ans.{done, hickup}
use Rattle.wire.specs.Parser.{ret, here, choose, ◌>>=◌}
use Rattle.dlt.specs.declared.Argument.{Argument}
use Rattle.cursor.specs.Row.{Step, item, end, mapped}
use Rattle.signals.specs.Signal.{signal}
use Rattle.wire.specs.Answers.{reason_number}
use Rattle.wire.specs.declared.Reason.{Reason}
use Rattle.signals.specs.declared.Constructed.{Constructed}
use Rattle.signals.specs.declared.SignalCursor.{SignalCursor}
use Rattle.signals.specs.declared.HandedSignal.{HandedSignal}

-- a signal for each word, passed
unfoldable pub signals : Bool → List ℕ → Parser Unit
signals big [] = ret tt
signals big (word ∷ words) = do
  a ← signal big word
  signals big words

-- the same, counted
unfoldable pub constructed : Bool → List ℕ → Parser ℕ
constructed big words = do
  u ← signals big words
  ret (length words)

-- the same, each kept
unfoldable pub listed : Bool → List ℕ → Parser (List Argument)
listed big [] = ret []
listed big (word ∷ words) = do
  a ← signal big word
  rest ← listed big words
  ret (a ∷ rest)

abbrev pub cursor : ℕ → ℕ → Bool → SignalCursor
cursor at word big = record { at = at; word = word; big = big }

-- one call of the cursor, asked at its position: the signal of its word while there is one
unfoldable pub signal_turn : List ℕ → SignalCursor → Parser (Option HandedSignal)
signal_turn words c = choose (ltb c.word (length words)) (do
  a ← signal c.big (get_or words c.word 0)
  next ← here
  ret (Some (record { argument = a; rest = cursor next (c.word + 1) c.big }))) (ret None)

-- the answer that a result stands for
abbrev pub construct_ans : Result Constructed Reason → Ans ℕ
construct_ans (Ok g) = done g.count g.used
construct_ans (Err r) = hickup (reason_number r)

-- ---- what the theorems of proofs/Row.antt say
-- a call over these words and bytes (cursor's specs/Row.antt says what its calls hand out)
abbrev pub step_of : Option HandedSignal → Step Argument SignalCursor
step_of (Some h) = item h.argument h.rest
step_of None = end

abbrev pub called : List ℕ → List ℕ → SignalCursor → Ans (Step Argument SignalCursor)
called words s c = mapped step_of (signal_turn words c s c.at)

-- a list that was read, as counted
abbrev pub sized : Ans (List Argument) → Ans ℕ
sized = mapped length
