-- The headers of a message whose bytes are all there: each field stands at a place that the type byte tells, and nothing is missing.
use Rattle.std.specs.Prelude.{ℕ, ◌+◌, Bool, true, false, List, Option, Some, None}
use Rattle.wire.specs.Parser.{pick}
use Rattle.wire.specs.Number.{number_of}
use Rattle.strings.specs.Text.{ended_text}
use Rattle.headertype.specs.Bits.{flag}
use Rattle.headertype.specs.declared.StandardHeader.{StandardHeader}
use Rattle.messageinfo.specs.declared.ExtendedHeader.{ExtendedHeader}
use Rattle.headers.specs.Standard.{header_of_lem}
use Rattle.headers.specs.Extended.{extended_of_lem}
use Rattle.storage.specs.Storage.{stored_of}
use Rattle.filter.specs.declared.Filter.{Filter}
use Rattle.parse.specs.Message.{headers_of_lem}
use Rattle.parse.specs.declared.Headers.{Headers}
use Rattle.storage.specs.declared.Stored.{Stored}
use Rattle.wire.specs.declared.Text.{Text}

-- the place behind four bytes that are there if flagged
abbrev pub behind : Bool → ℕ → ℕ
behind t at = pick t (at + 4) at

abbrev pub id_if : Bool → List ℕ → ℕ → Option Text
id_if t s at = pick t (Some (ended_text 4 s at)) None

abbrev pub number_if : Bool → List ℕ → ℕ → Option ℕ
number_if t s at = pick t (Some (number_of true 4 s at)) None

-- the standard header at a place: its type byte, its declared length, and where its fields stand
abbrev pub type_at : List ℕ → ℕ → ℕ
type_at s at = number_of true 1 s at

abbrev pub counter_at : List ℕ → ℕ → ℕ
counter_at s at = number_of true 1 s (at + 1)

abbrev pub length_at : List ℕ → ℕ → ℕ
length_at s at = number_of true 2 s (at + 2)

abbrev pub session_place : ℕ → ℕ → ℕ
session_place type at = behind (flag 4 type) (at + 4)

abbrev pub time_place : ℕ → ℕ → ℕ
time_place type at = behind (flag 8 type) (session_place type at)

abbrev pub extended_place_of : ℕ → ℕ → ℕ
extended_place_of type at = behind (flag 16 type) (time_place type at)

abbrev pub ecu_at : ℕ → List ℕ → ℕ → Option Text
ecu_at type s at = id_if (flag 4 type) s (at + 4)

abbrev pub session_at : ℕ → List ℕ → ℕ → Option ℕ
session_at type s at = number_if (flag 8 type) s (session_place type at)

abbrev pub time_at : ℕ → List ℕ → ℕ → Option ℕ
time_at type s at = number_if (flag 16 type) s (time_place type at)

unfoldable pub standard_at : ℕ → ℕ → List ℕ → ℕ → StandardHeader
standard_at type length s at = header_of_lem type (counter_at s at) length (ecu_at type s at) (session_at type s at) (time_at type s at)

-- the extended header at a place, and if flagged
unfoldable pub extended_at : List ℕ → ℕ → ExtendedHeader
extended_at s at = extended_of_lem (number_of true 1 s at) (number_of true 1 s (at + 1)) (ended_text 4 s (at + 2)) (ended_text 4 s (at + 6))

abbrev pub extended_if : Bool → List ℕ → ℕ → Option ExtendedHeader
extended_if t s at = pick t (Some (extended_at s at)) None

-- the storage header whose pattern stands at a place
unfoldable pub stored_at : List ℕ → ℕ → Option Stored
stored_at s i = stored_of i (number_of false 4 s (i + 4)) (number_of false 4 s (i + 8)) (ended_text 4 s (i + 12))

-- all of them, behind the pattern at i, by type byte and declared length
unfoldable pub headers_at : List ℕ → Filter → List ℕ → ℕ → ℕ → ℕ → Headers
headers_at f filter s i type length =
    headers_of_lem f filter (stored_at s i) (standard_at type length s (i + 16)) (extended_if (flag 1 type) s (extended_place_of type (i + 16))) s
