-- Which type info words are accepted, said by single bits and lengths.
use Rattle.std.specs.Prelude.{ℕ, ◌+◌, ◌%◌, Bool, true, false, eqb, Result, Ok, Err}
use Rattle.wire.specs.Parser.{pick}
use Rattle.headertype.specs.Bits.{bit, flag, both, either, from_to}
use Rattle.dlt.specs.declared.NoTypeInfo.{NoTypeInfo}
use Rattle.dlt.specs.declared.TypeInfo.{TypeInfo}

abbrev pub accepted : Result TypeInfo NoTypeInfo → Bool
accepted (Ok i) = true
accepted (Err r) = false

-- how many of bits 4, 5, 6, 7, 9 and 10 are set
abbrev pub kind_bits_of : ℕ → ℕ
kind_bits_of w = bit 16 w + bit 32 w + bit 64 w + bit 128 w + bit 512 w + bit 1024 w

-- the length of a signed or unsigned word is 1 to 5, or 3 or 4 with the fixed-point bit; that of a float is 3 or 4; any other kind has any
abbrev pub length_fits : ℕ → Bool
length_fits w =
    pick (either (flag 32 w) (flag 64 w)) (pick (flag 4096 w) (from_to 3 4 (w % 16)) (from_to 1 5 (w % 16)))
    (pick (flag 128 w) (from_to 3 4 (w % 16)) true)

-- exactly one of those bits, not bit 8, and a length that fits
unfoldable pub acceptable : ℕ → Bool
acceptable w = both (eqb (kind_bits_of w) 1) (both (eqb (bit 256 w) 0) (length_fits w))
