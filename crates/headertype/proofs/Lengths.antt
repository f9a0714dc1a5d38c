-- The length of all headers, counted from a header's fields; any version will do.
-- Assumes nothing.
use Prim.Native.Nat.{ℕ, zero, suc, ◌+◌, ◌*◌, ◌/◌, ◌%◌, ◌≤◌, ◌<◌}
use native.Mathlib.Omega.{arith}
use mathlib.Core.Path.{◌≡◌, refl}
use mathlib.Core.Bool.{Bool, true, false}
use lib.Dec.{eqb}
use Rattle.headertype.specs.Bits.{bit, flag, one_if_of}
use Rattle.headertype.specs.HeaderType.{big_bit_of, text_bit_of, num_bit_of, all_headers, header_type_byte_of}
use Rattle.headertype.specs.declared.Endianness.{Endianness}
use Rattle.headertype.specs.declared.StandardHeader.{StandardHeader}
use Rattle.std.specs.Prelude.{Option, Some, None}
use Rattle.wire.specs.declared.Text.{Text}

-- a flag that was tested is its bit
pub one_bit : (p x : ℕ) → one_if_of (flag p x) ≡ bit p x
one_bit p x = by (x / p % 2) (omega arith)
  where
    by : (b : ℕ) → b < 2 → one_if_of (eqb b 1) ≡ b
    by zero h = refl
    by (suc zero) h = refl
    by (suc (suc b)) h = absurd (omega arith)

odd : (a x : ℕ) → a ≤ 1 → (a + x * 2) % 2 ≡ a
odd a x h = omega arith

of_bits_lem : (a b c d e v : ℕ) → a ≤ 1 → b ≤ 1 → c ≤ 1 → d ≤ 1 → e ≤ 1
    → all_headers (a * 1 + b * 2 + c * 4 + d * 8 + e * 16 + v * 32) ≡ 4 + c * 4 + d * 4 + e * 4 + a * 10
unfolding all_headers
of_bits_lem a b c d e v ha hb hc hd he =
    let p0 : (a * 1 + b * 2 + c * 4 + d * 8 + e * 16 + v * 32) / 1 ≡ a + (b + c * 2 + d * 4 + e * 8 + v * 16) * 2 = omega arith in
    let q0 : (a * 1 + b * 2 + c * 4 + d * 8 + e * 16 + v * 32) / 4 ≡ c + (d + e * 2 + v * 4) * 2 = omega arith in
    let r0 : (a * 1 + b * 2 + c * 4 + d * 8 + e * 16 + v * 32) / 8 ≡ d + (e + v * 2) * 2 = omega arith in
    let t0 : (a * 1 + b * 2 + c * 4 + d * 8 + e * 16 + v * 32) / 16 ≡ e + v * 2 = omega arith in
    rw (p0, q0, r0, t0) (
    let p : (a + (b + c * 2 + d * 4 + e * 8 + v * 16) * 2) % 2 ≡ a = odd a (b + c * 2 + d * 4 + e * 8 + v * 16) ha in
    let q : (c + (d + e * 2 + v * 4) * 2) % 2 ≡ c = odd c (d + e * 2 + v * 4) hc in
    let r : (d + (e + v * 2) * 2) % 2 ≡ d = odd d (e + v * 2) hd in
    let t : (e + v * 2) % 2 ≡ e = odd e v he in
    rw (p, q, r, t))

one_most : (b : Bool) → one_if_of b ≤ 1
one_most true = omega arith
one_most false = omega arith

big_most : (e : Endianness) → big_bit_of e ≤ 1
big_most Endianness.Little = omega arith
big_most Endianness.Big = omega arith

text_most : (o : Option Text) → text_bit_of o ≤ 1
text_most (Some r) = omega arith
text_most None = omega arith

num_most : (o : Option ℕ) → num_bit_of o ≤ 1
num_most (Some r) = omega arith
num_most None = omega arith

pub all_headers_lem : (h : StandardHeader) → all_headers (header_type_byte_of h)
    ≡ 4 + text_bit_of h.ecu_id * 4 + num_bit_of h.session_id * 4 + num_bit_of h.timestamp * 4 + one_if_of h.has_extended_header * 10
unfolding header_type_byte_of
all_headers_lem h = of_bits_lem _ _ _ _ _ _ (one_most h.has_extended_header) (big_most h.endianness) (text_most h.ecu_id) (num_most h.session_id) (num_most h.timestamp)
