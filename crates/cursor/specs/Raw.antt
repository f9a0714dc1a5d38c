-- The raw values of arguments in a row: document 01, step 7, "A verbose network trace must have every argument read; only raw values are kept".
use Rattle.std.specs.Prelude.{ℕ, zero, suc, Bool, List, [], ◌∷◌, Option, Some, None}
use Rattle.wire.specs.Answer.{Ans, Parser}
use Rattle.wire.specs.Parser.{ret, here, ◌>>=◌}
use Rattle.wire.specs.declared.Range.{Range}
use Rattle.dlt.specs.declared.Value.{Value}
use Rattle.dlt.specs.declared.Argument.{Argument}
use Rattle.arguments.specs.Argument.{argument}
use Rattle.cursor.specs.Row.{Step, item, end, mapped}
use Rattle.cursor.specs.declared.RawCursor.{RawCursor}
use Rattle.cursor.specs.declared.HandedRaw.{HandedRaw}

-- where a raw value stands; any other is not kept
unfoldable pub raw_of_lem : Value → Option Range
raw_of_lem (Value.Bool v) = None
raw_of_lem (Value.U8 v) = None
raw_of_lem (Value.U16 v) = None
raw_of_lem (Value.U32 v) = None
raw_of_lem (Value.U64 v) = None
raw_of_lem (Value.U128 v w) = None
raw_of_lem (Value.I8 v) = None
raw_of_lem (Value.I16 v) = None
raw_of_lem (Value.I32 v) = None
raw_of_lem (Value.I64 v) = None
raw_of_lem (Value.I128 v w) = None
raw_of_lem (Value.F32 v) = None
raw_of_lem (Value.F64 v) = None
raw_of_lem (Value.F32NotANumber v) = None
raw_of_lem (Value.F64NotANumber v) = None
raw_of_lem (Value.StringVal v) = None
raw_of_lem (Value.Raw r) = Some r

abbrev pub raw_cursor : ℕ → ℕ → Bool → RawCursor
raw_cursor at left big = record { at = at; left = left; big = big }

-- behind an argument, with n left: its raw value is handed out, and without one the rest is asked
abbrev pub hand_out_of : Bool → ℕ → Parser (Option HandedRaw) → Option Range → Parser (Option HandedRaw)
hand_out_of big n rest (Some r) = do
  next ← here
  ret (Some (record { range = r; rest = raw_cursor next n big }))
hand_out_of big n rest None = rest

-- the first raw value of n arguments; every argument up to it is read
unfoldable pub first_raw : Bool → ℕ → Parser (Option HandedRaw)
first_raw big zero = ret None
first_raw big (suc n) = do
  a ← argument big
  hand_out_of big n (first_raw big n) (raw_of_lem a.value)

-- one call of the cursor, asked at its position
abbrev pub raw_turn : RawCursor → Parser (Option HandedRaw)
raw_turn c = first_raw c.big c.left

-- ---- what the theorems of proofs/Raw.antt say
-- a call over these bytes (specs/Row.antt says what its calls hand out)
abbrev pub raw_step_of : Option HandedRaw → Step Range RawCursor
raw_step_of (Some h) = item h.range h.rest
raw_step_of None = end

abbrev pub raw_called : List ℕ → RawCursor → Ans (Step Range RawCursor)
raw_called s c = mapped raw_step_of (raw_turn c s c.at)

-- the raw values of a list of arguments, in its order
abbrev pub kept_before : Option Range → List Range → List Range
kept_before (Some r) rest = r ∷ rest
kept_before None rest = rest

abbrev pub kept : List Argument → List Range
kept [] = []
kept (a ∷ rest) = kept_before (raw_of_lem a.value) (kept rest)

-- a list that was read, of which only raw values are kept
abbrev pub raw_kept : Ans (List Argument) → Ans (List Range)
raw_kept = mapped kept
