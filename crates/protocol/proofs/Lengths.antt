-- The crate's length of all headers is the sum of the widths of the fields that HTYP says are there, and where each field stands.
-- Assumes nothing.
use Prim.Native.Nat.{ℕ, ◌+◌, ◌*◌, ◌<◌}
use native.Mathlib.Omega.{arith}
use mathlib.Core.Path.{◌≡◌, refl}
use mathlib.Core.Bool.{Bool, true, false}
use lib.Dec.{eqb}
use lib.ListN.{get_or}
use borrow.Author.Tests.{eqb-true}
use Rattle.wire.specs.Parser.{pick}
use Rattle.headertype.specs.Bits.{bit}
use Rattle.headertype.proofs.Every.{every_at, numbers}
use Rattle.headertype.specs.HeaderType.{standard_length, all_headers}
use Rattle.protocol.specs.Fields.{UEH, Field, in_order, headers, place, offset}

pub headers_length : (h : ℕ) → h < 256 → all_headers h ≡ headers h
unfolding all_headers
headers_length h b = numbers all_headers headers 256 refl h b

-- each field stands at its place in the order
pub in_place : (f : Field) → get_or in_order (place f) Field.HTYP ≡ f
in_place Field.HTYP = refl
in_place Field.MCNT = refl
in_place Field.LEN = refl
in_place Field.ECU = refl
in_place Field.SEID = refl
in_place Field.TMSP = refl
in_place Field.MSIN = refl
in_place Field.NOAR = refl
in_place Field.APID = refl
in_place Field.CTID = refl

-- the first four fields stand at 0, 1, 2 and 4; the next behind those that are there
pub first_fields : (h : ℕ) → (offset h Field.HTYP ≡ 0) × ((offset h Field.MCNT ≡ 1) × ((offset h Field.LEN ≡ 2) × (offset h Field.ECU ≡ 4)))
first_fields h = (refl, (refl, (refl, refl)))

pub session_stands : (h : ℕ) → h < 256 → offset h Field.SEID ≡ 4 + bit 4 h * 4
session_stands h b = numbers (λ h. offset h Field.SEID) (λ h. 4 + bit 4 h * 4) 256 refl h b

pub time_stands : (h : ℕ) → h < 256 → offset h Field.TMSP ≡ 4 + bit 4 h * 4 + bit 8 h * 4
time_stands h b = numbers (λ h. offset h Field.TMSP) (λ h. 4 + bit 4 h * 4 + bit 8 h * 4) 256 refl h b

pub extended_stands : (h : ℕ) → h < 256 → offset h Field.MSIN ≡ standard_length h
extended_stands h b = numbers (λ h. offset h Field.MSIN) standard_length 256 refl h b

-- the fields of the extended header, where there is one
abbrev behind : Field → ℕ → ℕ → Bool
behind f n h = pick (UEH h) (eqb (offset h f) (standard_length h + n)) true

given : (t : Bool) (m n : ℕ) → pick t (eqb m n) true ≡ true → t ≡ true → m ≡ n
given true m n e u = eqb-true m n e
given false m n e u = let z : ◌≡◌ {A = ℕ} 0 1 = cc in absurd (omega arith)

pub count_stands : (h : ℕ) → h < 256 → UEH h ≡ true → offset h Field.NOAR ≡ standard_length h + 1
count_stands h b = given (UEH h) _ _ (every_at (behind Field.NOAR 1) 256 refl h b)

pub application_stands : (h : ℕ) → h < 256 → UEH h ≡ true → offset h Field.APID ≡ standard_length h + 2
application_stands h b = given (UEH h) _ _ (every_at (behind Field.APID 2) 256 refl h b)

pub context_stands : (h : ℕ) → h < 256 → UEH h ≡ true → offset h Field.CTID ≡ standard_length h + 6
context_stands h b = given (UEH h) _ _ (every_at (behind Field.CTID 6) 256 refl h b)
