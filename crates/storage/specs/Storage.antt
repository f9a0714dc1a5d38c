-- Document 01, step 2: storage mode. The mark, the length of what it leads, and what is read there are parameters.
use Rattle.std.specs.Prelude.{ℕ, ◌-◌, false, List, length, leb, Option, Some, None}
use Rattle.wire.specs.Answer.{Ans, Parser}
use Rattle.wire.specs.Answer.Ans.{done, need}
use Rattle.wire.specs.Parser.{pick, ret, ◌>>=◌}
use Rattle.wire.specs.Number.{number}
use Rattle.wire.specs.Run.{bytes}
use Rattle.wire.specs.declared.Text.{Text}
use Rattle.strings.specs.Text.{identified}
use Rattle.mark.specs.First.{pattern, find}
use Rattle.storage.specs.declared.Stored.{Stored}

-- where a mark was found, with so many bytes skipped; none: the rest is empty
abbrev pub from_mark : {A : Type 0} → (ℕ → Parser A) → A → List ℕ → ℕ → Option ℕ → Ans A
from_mark lead none s at (Some i) = lead (i - at) s i
from_mark lead none s at None = done none (length s)

-- under n bytes is Incomplete, need 0, mark or not; else the first mark
unfoldable pub marked : {A : Type 0} → List ℕ → ℕ → (ℕ → Parser A) → A → Parser A
marked mark n lead none s at = pick (leb n (length s - at)) (from_mark lead none s at (find mark s at)) (need 0)

unfoldable pub stored_of : ℕ → ℕ → ℕ → Text → Option Stored
stored_of skipped seconds micros ecu =
    Some (record { header = record { timestamp = record { seconds = seconds; microseconds = micros }; ecu_id = ecu }; skipped = skipped })

-- a 4-byte identifier
unfoldable pub owned : ℕ → ℕ → ℕ → Parser (Option Stored)
owned skipped seconds micros = do
  ecu ← identified
  ret (stored_of skipped seconds micros ecu)

-- the pattern; seconds and microseconds, 32 bits little-endian each; then the identifier
unfoldable pub stored : ℕ → Parser (Option Stored)
stored skipped = do
  mark ← bytes 4
  seconds ← number false 4
  micros ← number false 4
  owned skipped seconds micros

-- the storage header
unfoldable pub storage : Parser (Option Stored)
storage = marked pattern 16 stored None
