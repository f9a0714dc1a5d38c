-- The fields of the standard and the extended header: which are there, in which order, how wide, and where each stands.
use Rattle.std.specs.Prelude.{ℕ, zero, suc, ◌+◌, ◌-◌, ◌*◌, ◌/◌, ◌%◌, Bool, true, List, [], ◌∷◌, get_or, take, drop}
use Rattle.wire.specs.Parser.{pick}
use Rattle.headertype.specs.Bits.{flag}

-- ---- HTYP, the header type
abbrev pub UEH : ℕ → Bool  -- use extended header
UEH htyp = flag 1 htyp

abbrev pub MSBF : ℕ → Bool  -- most significant byte first, in the payload
MSBF htyp = flag 2 htyp

abbrev pub WEID : ℕ → Bool  -- with ECU id
WEID htyp = flag 4 htyp

abbrev pub WSID : ℕ → Bool  -- with session id
WSID htyp = flag 8 htyp

abbrev pub WTMS : ℕ → Bool  -- with timestamp
WTMS htyp = flag 16 htyp

abbrev pub VERS : ℕ → ℕ  -- version, 1 today
VERS htyp = htyp / 32 % 8

-- ---- the fields: header type, message counter, length, ECU id, session id, timestamp; message info, number of arguments, application id, context id
pub data Field : Type 0 where
  HTYP : Field
  MCNT : Field
  LEN : Field
  ECU : Field
  SEID : Field
  TMSP : Field
  MSIN : Field
  NOAR : Field
  APID : Field
  CTID : Field

abbrev pub in_order : List Field
in_order = Field.HTYP ∷ Field.MCNT ∷ Field.LEN ∷ Field.ECU ∷ Field.SEID ∷ Field.TMSP ∷ Field.MSIN ∷ Field.NOAR ∷ Field.APID ∷ Field.CTID ∷ []

-- in bytes
abbrev pub width : Field → ℕ
width Field.HTYP = 1
width Field.MCNT = 1
width Field.LEN = 2
width Field.ECU = 4
width Field.SEID = 4
width Field.TMSP = 4
width Field.MSIN = 1
width Field.NOAR = 1
width Field.APID = 4
width Field.CTID = 4

abbrev pub present : ℕ → Field → Bool
present htyp Field.HTYP = true
present htyp Field.MCNT = true
present htyp Field.LEN = true
present htyp Field.ECU = WEID htyp
present htyp Field.SEID = WSID htyp
present htyp Field.TMSP = WTMS htyp
present htyp Field.MSIN = UEH htyp
present htyp Field.NOAR = UEH htyp
present htyp Field.APID = UEH htyp
present htyp Field.CTID = UEH htyp

-- the bytes of the fields of a list that are there
abbrev pub widths : ℕ → List Field → ℕ
widths htyp [] = 0
widths htyp (f ∷ fs) = pick (present htyp f) (width f) 0 + widths htyp fs

-- all headers; the payload is what LEN counts beyond them
abbrev pub headers : ℕ → ℕ
headers htyp = widths htyp in_order

abbrev pub payload : ℕ → ℕ → ℕ
payload htyp len = len - headers htyp

-- a field's place in the order, and where it stands, from HTYP on: behind those before it that are there
abbrev pub place : Field → ℕ
place Field.HTYP = 0
place Field.MCNT = 1
place Field.LEN = 2
place Field.ECU = 3
place Field.SEID = 4
place Field.TMSP = 5
place Field.MSIN = 6
place Field.NOAR = 7
place Field.APID = 8
place Field.CTID = 9

abbrev pub offset : ℕ → Field → ℕ
offset htyp f = widths htyp (take (place f) in_order)

-- ---- a field of a message whose HTYP stands at a position of some bytes: its bytes, and their number, the most significant byte first
abbrev pub field_bytes : Field → ℕ → List ℕ → ℕ → List ℕ
field_bytes f htyp s at = take (width f) (drop (at + offset htyp f) s)

abbrev pub big_endian_of : ℕ → List ℕ → ℕ → ℕ
big_endian_of zero s at = 0
big_endian_of (suc n) s at = big_endian_of n s at * 256 + get_or s (at + n) 0

abbrev pub field_number : Field → ℕ → List ℕ → ℕ → ℕ
field_number f htyp s at = big_endian_of (width f) s (at + offset htyp f)
