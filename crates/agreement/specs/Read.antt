-- Which bytes are headers of the protocol: what must stand there for them to be read, and what it means that they are.
use Rattle.std.specs.Prelude.{ℕ, ◌+◌, ◌≤◌, ◌≡◌, List, length}
use Rattle.wire.specs.Answer.Ans.{done}
use Rattle.headertype.specs.declared.StandardHeader.{StandardHeader}
use Rattle.messageinfo.specs.declared.ExtendedHeader.{ExtendedHeader}
use Rattle.headers.specs.Standard.{standard}
use Rattle.headers.specs.Extended.{extended}
use Rattle.protocol.specs.Fields.{Field, offset, headers}
use Rattle.agreement.specs.Agree.{htyp_of, len_of, StandardAgrees, ExtendedAgrees}

-- where the standard header and where all headers end, as HTYP has it
abbrev pub standard_end : List ℕ → ℕ → ℕ
standard_end s at = at + offset (htyp_of s at) Field.MSIN

abbrev pub headers_end : List ℕ → ℕ → ℕ
headers_end s at = at + headers (htyp_of s at)

-- each field of the standard header, and of all headers, that HTYP says is there stands in the bytes; LEN counts all headers at least
abbrev pub StandardThere : List ℕ → ℕ → Type 0
StandardThere s at = standard_end s at ≤ length s

abbrev pub HeadersThere : List ℕ → ℕ → Type 0
HeadersThere s at = headers_end s at ≤ length s

abbrev pub LenCounts : List ℕ → ℕ → Type 0
LenCounts s at = headers (htyp_of s at) ≤ len_of s at

-- the standard header at HTYP's position, and the extended header behind it, are read, and are the protocol's
pub record StandardRead (s : List ℕ) (at : ℕ) : Type 0 where
  pub header : StandardHeader
  pub answer : standard s at ≡ done header (standard_end s at)
  pub agrees : StandardAgrees s at header (standard_end s at)

pub record ExtendedRead (s : List ℕ) (at : ℕ) : Type 0 where
  pub header : ExtendedHeader
  pub answer : extended s (standard_end s at) ≡ done header (headers_end s at)
  pub agrees : ExtendedAgrees s at header (headers_end s at)
