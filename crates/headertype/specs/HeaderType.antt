-- Document 01, step 3: the header type byte. Bit 0 extended header, 1 big-endian payload, 2 ECU id, 3 session id, 4 timestamp; bits 5 to 7 version.
use Rattle.std.specs.Prelude.{ℕ, ◌+◌, ◌*◌, ◌%◌, Option, Some, None}
use Rattle.headertype.specs.Bits.{bit, one_if_of}
use Rattle.headertype.specs.declared.Endianness.{Endianness}
use Rattle.headertype.specs.declared.StandardHeader.{StandardHeader}
use Rattle.wire.specs.declared.Text.{Text}

-- the standard header: 4, plus 4 for each of the three fields
abbrev pub standard_length : ℕ → ℕ
standard_length type = 4 + bit 4 type * 4 + bit 8 type * 4 + bit 16 type * 4

-- all headers: plus 10 for an extended header. The storage header isn't counted
unfoldable pub all_headers : ℕ → ℕ
all_headers type = standard_length type + bit 1 type * 10

-- a flag's bit, from what it says
abbrev pub big_bit_of : Endianness → ℕ
big_bit_of Endianness.Little = 0
big_bit_of Endianness.Big = 1

abbrev pub text_bit_of : Option Text → ℕ
text_bit_of (Some r) = 1
text_bit_of None = 0

abbrev pub num_bit_of : Option ℕ → ℕ
num_bit_of (Some n) = 1
num_bit_of None = 0

-- the type byte that announces a header
unfoldable pub header_type_byte_of : StandardHeader → ℕ
header_type_byte_of h =
    one_if_of h.has_extended_header * 1 + big_bit_of h.endianness * 2 + text_bit_of h.ecu_id * 4 + num_bit_of h.session_id * 8
    + num_bit_of h.timestamp * 16 + h.version % 8 * 32

-- the message without its storage header: all headers and the payload
unfoldable pub overall_length_of : StandardHeader → ℕ
overall_length_of h = all_headers (header_type_byte_of h) + h.payload_length
