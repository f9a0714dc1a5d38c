-- Document 01, `skip_storage_header` and `dlt_consume_msg`.
use Rattle.std.specs.Prelude.{ℕ, suc, ◌+◌, ◌-◌, List, [], ◌∷◌, length, get_or, leb, eqb, Option, Some, None}
use Rattle.wire.specs.Answer.{Parser}
use Rattle.wire.specs.Answer.Ans.{done, need, hickup}
use Rattle.wire.specs.Parser.{pick, ret, here, ◌>>=◌}
use Rattle.wire.specs.Run.{bytes}
use Rattle.headertype.specs.HeaderType.{overall_length_of}
use Rattle.headers.specs.Standard.{standard}

-- the bytes of p stand at once; the first that differs is Hickup 4; else the need is their shortfall
unfoldable pub tagged : List ℕ → Parser Unit
tagged [] s at = done tt at
tagged (b ∷ p) s at = pick (leb 1 (length s - at)) (pick (eqb (get_or s at 0) b) (tagged p s (suc at)) (hickup 4)) (need (suc (length p)))

-- `DLT`, then `01`, then 12 bytes: 16 in all
unfoldable pub skip : Parser ℕ
skip = do
  letters ← tagged (0x44 ∷ 0x4C ∷ 0x54 ∷ [])
  one ← tagged (0x01 ∷ [])
  rest ← bytes 12
  ret 16

-- a rule asked at another position
unfoldable pub from : {A : Type 0} → ℕ → Parser A → Parser A
from start p s at = p s start

-- the message whole, counted with its storage header. The extended header isn't read, though its ten bytes count
unfoldable pub whole : Parser (Option ℕ)
whole = do
  start ← here
  header ← standard
  message ← from start (bytes (overall_length_of header))
  ret (Some (16 + overall_length_of header))

-- empty input is done with no count
unfoldable pub consume : Parser (Option ℕ)
consume s at = pick (leb 1 (length s - at)) ((skip >>= (λ lead. whole)) s at) (done None at)
