-- Arguments in a row: document 01, step 7, "as many arguments as counted", and "a cursor hands out one record per call".
use Rattle.std.specs.Prelude.{ℕ, zero, suc, ◌-◌, Bool, List, [], ◌∷◌, leb, Option, Some, None}
use Rattle.wire.specs.Answer.{Ans, Parser}
use Rattle.wire.specs.Parser.{ret, here, choose, times, ◌>>=◌}
use Rattle.dlt.specs.declared.Argument.{Argument}
use Rattle.arguments.specs.Argument.{argument}
use Rattle.cursor.specs.Row.{Step, item, end, mapped}
use Rattle.cursor.specs.declared.Cursor.{Cursor}
use Rattle.cursor.specs.declared.Handed.{Handed}

-- as many arguments as counted, passed
unfoldable pub arguments : Bool → ℕ → Parser Unit
arguments big n = times n (argument big)

-- the same, each kept
unfoldable pub listed : Bool → ℕ → Parser (List Argument)
listed big zero = ret []
listed big (suc n) = do
  a ← argument big
  rest ← listed big n
  ret (a ∷ rest)

abbrev pub cursor : ℕ → ℕ → Bool → Cursor
cursor at left big = record { at = at; left = left; big = big }

-- one call of the cursor, asked at its position: the next argument while any is left
unfoldable pub turn : Cursor → Parser (Option Handed)
turn c = choose (leb 1 c.left) (do
  a ← argument c.big
  next ← here
  ret (Some (record { argument = a; rest = cursor next (c.left - 1) c.big }))) (ret None)

-- ---- what the theorems of proofs/Row.antt say
-- a call over these bytes (specs/Row.antt says what its calls hand out)
abbrev pub step_of : Option Handed → Step Argument Cursor
step_of (Some h) = item h.argument h.rest
step_of None = end

abbrev pub called : List ℕ → Cursor → Ans (Step Argument Cursor)
called s c = mapped step_of (turn c s c.at)

-- a list that was read, as passed
abbrev pub passed : Ans (List Argument) → Ans Unit
passed = mapped (λ all. tt)
