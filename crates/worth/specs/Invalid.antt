-- The source's `ParsedMessage::Invalid`. `dlt_message_intern` answers it where `validated_payload_length` fails otherwise than by Incomplete, and that is
-- where `header.overall_length()` is below `calculate_all_headers_length(header.header_type_byte())`. Both are of type u16.
use Rattle.std.specs.Prelude.{ℕ, ◌%◌, Bool, ltb}
use Rattle.headertype.specs.HeaderType.{all_headers, header_type_byte_of, overall_length_of}
use Rattle.headertype.specs.declared.StandardHeader.{StandardHeader}

-- the sum in 16 bits, as a release build wraps it
abbrev pub sixteen_bits : ℕ → ℕ
sixteen_bits n = n % 65536

-- the source's test
unfoldable pub is_invalid : StandardHeader → Bool
is_invalid header = ltb (sixteen_bits (overall_length_of header)) (all_headers (header_type_byte_of header))
