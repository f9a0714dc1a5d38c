-- What it means that a header is the protocol's: each of its fields is the protocol's field of the bytes at HTYP's position.
use Rattle.std.specs.Prelude.{ℕ, ◌+◌, ◌-◌, ◌≤◌, ◌<◌, ◌≡◌, true, false, List, length, get_or, take, drop, Option, Some, None}
use Rattle.wire.specs.Parser.{pick}
use Rattle.wire.specs.declared.Range.{Range}
use Rattle.wire.specs.declared.Text.{Text}
use Rattle.headertype.specs.declared.Endianness.{Endianness}
use Rattle.headertype.specs.declared.StandardHeader.{StandardHeader}
use Rattle.messageinfo.specs.MessageInfo.{message_type_of}
use Rattle.messageinfo.specs.Kept.{type_number_of, subtype_number_of}
use Rattle.messageinfo.specs.declared.ExtendedHeader.{ExtendedHeader}
use Rattle.protocol.specs.Fields.{UEH, MSBF, VERS, Field, width, present, offset, headers, payload, field_bytes, field_number}
use Rattle.protocol.specs.Msin.{VERB, MSTP, MTIN}
use Rattle.agreement.specs.Identifier.{IdentifierOf, end_in}

-- HTYP itself, at its position, and MSIN and LEN of the same message
abbrev pub htyp_of : List ℕ → ℕ → ℕ
htyp_of s at = get_or s at 0

abbrev pub msin_of : List ℕ → ℕ → ℕ
msin_of s at = field_number Field.MSIN (htyp_of s at) s at

abbrev pub len_of : List ℕ → ℕ → ℕ
len_of s at = field_number Field.LEN (htyp_of s at) s at

-- a number of the protocol's layout, if HTYP says that it is there
abbrev pub number_field : Field → List ℕ → ℕ → Option ℕ
number_field f s at = pick (present (htyp_of s at) f) (Some (field_number f (htyp_of s at) s at)) None

-- a part r of the bytes s, as bytes
abbrev pub bytes_of : Range → List ℕ → List ℕ
bytes_of r s = take r.len (drop r.start s)

-- a text t of the bytes s is a field's identifier: it starts where the field starts, that many bytes stand there, they are the identifier of the field's bytes,
-- and it ended as this one ends
pub record IdField (f : Field) (s : List ℕ) (at : ℕ) (t : Text) : Type 0 where
  pub starts : t.place.start ≡ at + offset (htyp_of s at) f
  pub inside : t.place.len ≤ length s - t.place.start
  pub bytes : IdentifierOf (field_bytes f (htyp_of s at) s at) (bytes_of t.place s)
  pub why : t.ended ≡ end_in (width f) (field_bytes f (htyp_of s at) s at) (bytes_of t.place s)

-- it is there just where HTYP says so
abbrev pub MaybeIdField : Field → List ℕ → ℕ → Option Text → Type 0
MaybeIdField f s at (Some t) = (present (htyp_of s at) f ≡ true) × IdField f s at t
MaybeIdField f s at None = present (htyp_of s at) f ≡ false

-- the standard header h whose HTYP stands at a position, and that it ends where the extended header or the payload begins
pub record StandardAgrees (s : List ℕ) (at : ℕ) (h : StandardHeader) (next : ℕ) : Type 0 where
  pub vers : h.version ≡ VERS (htyp_of s at)
  pub msbf : h.endianness ≡ pick (MSBF (htyp_of s at)) Endianness.Big Endianness.Little
  pub ueh : h.has_extended_header ≡ UEH (htyp_of s at)
  pub mcnt : h.message_counter ≡ field_number Field.MCNT (htyp_of s at) s at
  pub len : h.payload_length ≡ payload (htyp_of s at) (len_of s at)
  pub ecu : MaybeIdField Field.ECU s at h.ecu_id
  pub seid : h.session_id ≡ number_field Field.SEID s at
  pub tmsp : h.timestamp ≡ number_field Field.TMSP s at
  pub ends : next ≡ at + offset (htyp_of s at) Field.MSIN

-- the extended header e of the message whose HTYP stands at a position, and that it ends where all headers end. Of an MSIN that is a byte, the message type has
-- the protocol's type and subtype
pub record ExtendedAgrees (s : List ℕ) (at : ℕ) (e : ExtendedHeader) (next : ℕ) : Type 0 where
  pub verb : e.verbose ≡ VERB (msin_of s at)
  pub msin : e.message_type ≡ message_type_of (msin_of s at)
  pub mstp : msin_of s at < 256 → type_number_of e.message_type ≡ MSTP (msin_of s at)
  pub mtin : msin_of s at < 256 → subtype_number_of e.message_type ≡ MTIN (msin_of s at)
  pub noar : e.argument_count ≡ field_number Field.NOAR (htyp_of s at) s at
  pub apid : IdField Field.APID s at e.application_id
  pub ctid : IdField Field.CTID s at e.context_id
  pub ends : next ≡ at + headers (htyp_of s at)
