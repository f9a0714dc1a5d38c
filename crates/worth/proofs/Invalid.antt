-- The source's `ParsedMessage::Invalid` never comes out: its test fails for every standard header that is read from bytes.
-- Assumes nothing.
use Prim.Native.Nat.{ℕ, ◌+◌, ◌%◌, ◌<◌}
use native.Mathlib.Omega.{arith}
use mathlib.Core.Path.{◌≡◌, refl}
use mathlib.Core.Bool.{Bool, true, false}
use mathlib.Core.List.{List}
use lib.ListN.{get_or}
use borrow.Author.Tests.{le-ltb}
use Rattle.wire.specs.Answer.Ans.{done}
use Rattle.wire.specs.Number.{number_of}
use Rattle.headertype.specs.HeaderType.{all_headers, header_type_byte_of, overall_length_of}
use Rattle.headertype.specs.declared.Endianness.{Endianness}
use Rattle.headertype.specs.declared.StandardHeader.{StandardHeader}
use Rattle.headers.specs.Standard.{standard}
use Rattle.headers.proofs.Ends.{standard_says}
use Rattle.worth.specs.Opening.{Opening, opening}
use Rattle.worth.specs.Invalid.{is_invalid}
use Rattle.worth.proofs.Ends.{parts}
use Rattle.std.specs.Prelude.{None}

-- two bytes make a number below 65,536
two_bytes : (s : List ℕ) (at : ℕ) → ((i : ℕ) → get_or s i 0 < 256) → number_of true 2 s at < 65536
unfolding number_of
two_bytes s at byte = omega (arith, byte (at + 0), byte (at + 1))

-- the sum of headers and payload is the declared length again, so that nothing wraps
pub never_invalid : (h : StandardHeader) (n : ℕ) (s : List ℕ) (at : ℕ) → ((i : ℕ) → get_or s i 0 < 256) → standard s at ≡ done h n → is_invalid h ≡ false
unfolding is_invalid overall_length_of
never_invalid h n s at byte e =
    let small : overall_length_of h < 65536 = omega (arith, standard_says h n s at e, two_bytes s (at + 2) byte) in
    let same : overall_length_of h % 65536 ≡ overall_length_of h = omega (arith, small) in
    rw same (le-ltb (overall_length_of h) (all_headers (header_type_byte_of h)) (omega arith))

-- so at no message whose headers are read
pub no_invalid_message : (t : Bool) (l : Opening) (behind : ℕ) (s : List ℕ) → ((i : ℕ) → get_or s i 0 < 256) → opening t s 0 ≡ done l behind → is_invalid l.header ≡ false
no_invalid_message t l behind s byte e = let p = parts t l behind s 0 e in never_invalid l.header p.mid s l.start byte p.first

-- the test by itself can be met: by a header that no bytes have, whose 16-bit sum wraps
pub made_by_hand : is_invalid (record {
  version = 1;
  endianness = Endianness.Little;
  has_extended_header = false;
  message_counter = 0;
  ecu_id = None;
  session_id = None;
  timestamp = None;
  payload_length = 65535;
}) ≡ true
unfolding is_invalid overall_length_of all_headers header_type_byte_of
made_by_hand = refl
