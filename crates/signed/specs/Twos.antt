-- Two's complement, and signed numbers of some bytes.
use Rattle.std.specs.Prelude.{ℕ, ◌-◌, ◌*◌, ◌/◌, ◌%◌, ◌^◌, Bool, ℤ, pos, negsuc, ltb}
use Rattle.wire.specs.Answer.{Parser}
use Rattle.wire.specs.Parser.{pick}
use Rattle.wire.specs.Number.{numeric}
use Rattle.signed.specs.declared.SignedWide.{SignedWide}

-- the number that k bits b stand for: b in the lower half, else b less 2 ^ k. `negsuc n` is the negative of n + 1
abbrev pub twos : ℕ → ℕ → ℤ
twos k b = pick (ltb b (2 ^ (k - 1))) (pos b) (negsuc (2 ^ k - 1 - b))

-- w bytes as a signed number
unfoldable pub signed : Bool → ℕ → Parser ℤ
signed big w = numeric (twos (8 * w)) big w

-- 128 bits in two halves: the high one has the sign
unfoldable pub signed_halves : ℕ → SignedWide
signed_halves n = record { high = twos 64 (n / 2 ^ 64); low = n % 2 ^ 64 }
