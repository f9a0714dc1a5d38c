-- A header whose fields were taken from a type byte has that byte again, and its length from it.
-- Assumes nothing.
use Prim.Native.Nat.{ℕ, ◌+◌, ◌*◌, ◌/◌, ◌%◌, ◌<◌}
use mathlib.Core.Path.{◌≡◌, refl}
use Rattle.headertype.specs.Bits.{bit, one_if_of}
use Rattle.headertype.proofs.Every.{numbers}
use Rattle.headertype.specs.HeaderType.{big_bit_of, text_bit_of, num_bit_of, all_headers, header_type_byte_of, overall_length_of}
use Rattle.headertype.specs.declared.StandardHeader.{StandardHeader}

bits_again : (t : ℕ) → t < 256 → bit 1 t * 1 + bit 2 t * 2 + bit 4 t * 4 + bit 8 t * 8 + bit 16 t * 16 + t / 32 % 8 * 32 ≡ t
bits_again t h = numbers (λ t. bit 1 t * 1 + bit 2 t * 2 + bit 4 t * 4 + bit 8 t * 8 + bit 16 t * 16 + t / 32 % 8 * 32) (λ t. t) 256 refl t h

module _ (h : StandardHeader) (t : ℕ) (byte : t < 256) (ext : one_if_of h.has_extended_header ≡ bit 1 t) (big : big_bit_of h.endianness ≡ bit 2 t)
    (ecu : text_bit_of h.ecu_id ≡ bit 4 t) (session : num_bit_of h.session_id ≡ bit 8 t) (time : num_bit_of h.timestamp ≡ bit 16 t) (version : h.version ≡ t / 32) where
  pub type_byte : header_type_byte_of h ≡ t
  unfolding header_type_byte_of
  type_byte = rw (ext, big, ecu, session, time, version) (bits_again t byte)

  pub overall : overall_length_of h ≡ all_headers t + h.payload_length
  unfolding overall_length_of
  overall = rw type_byte
