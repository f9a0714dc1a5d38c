-- Document 01, step 3: the standard header.
use Rattle.std.specs.Prelude.{ℕ, ◌-◌, ◌/◌, Bool, true, leb, Option, Some, None}
use Rattle.wire.specs.Answer.{Parser}
use Rattle.wire.specs.Parser.{ret, refuse, choose, pick, ◌>>=◌}
use Rattle.wire.specs.Number.{number}
use Rattle.wire.specs.Run.{bytes}
use Rattle.strings.specs.Text.{identified}
use Rattle.headertype.specs.Bits.{flag}
use Rattle.headertype.specs.HeaderType.{all_headers}
use Rattle.headertype.specs.declared.Endianness.{Endianness}
use Rattle.headertype.specs.declared.StandardHeader.{StandardHeader}
use Rattle.wire.specs.declared.Text.{Text}

-- an identifier, and 32 bits big-endian, if flagged
unfoldable pub maybe_id : Bool → Parser (Option Text)
maybe_id t = choose t (identified >>= (λ v. ret (Some v))) (ret None)

unfoldable pub maybe_number_of : Bool → Parser (Option ℕ)
maybe_number_of t = choose t (number true 4 >>= (λ v. ret (Some v))) (ret None)

-- bit 1 of the type byte: the payload's byte order
unfoldable pub endian_of : ℕ → Endianness
endian_of type = pick (flag 2 type) Endianness.Big Endianness.Little

-- the header, of its fields
unfoldable pub header_of_lem : ℕ → ℕ → ℕ → Option Text → Option ℕ → Option ℕ → StandardHeader
header_of_lem type counter length ecu session time = record {
  version = type / 32;
  endianness = endian_of type;
  has_extended_header = flag 1 type;
  message_counter = counter;
  ecu_id = ecu;
  session_id = session;
  timestamp = time;
  payload_length = length - all_headers type;
}

-- all fields are read first; only then is a declared length below all headers Hickup 1
unfoldable pub flagged : ℕ → ℕ → ℕ → Parser StandardHeader
flagged type counter length = do
  ecu ← maybe_id (flag 4 type)
  session ← maybe_number_of (flag 8 type)
  time ← maybe_number_of (flag 16 type)
  choose (leb (all_headers type) length) (ret (header_of_lem type counter length ecu session time)) (refuse 1)

-- type byte; counter; declared length, 16 bits big-endian; then, if flagged, identifier, session id and timestamp
unfoldable pub standard : Parser StandardHeader
standard = do
  type ← number true 1
  counter ← number true 1
  length ← number true 2
  flagged type counter length

-- the declared length alone: behind the type byte and the counter
unfoldable pub declared : Parser ℕ
declared = do
  before ← bytes 2
  number true 2
