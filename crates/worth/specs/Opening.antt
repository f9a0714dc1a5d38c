-- Document 01, "One message, step by step", steps 2 to 4 by themselves: the headers are read, and neither the length nor the filter is looked at.
use Rattle.std.specs.Prelude.{ℕ, Bool, Option, None}
use Rattle.wire.specs.Answer.{Parser}
use Rattle.wire.specs.Parser.{ret, here, choose, ◌>>=◌}
use Rattle.headertype.specs.declared.StandardHeader.{StandardHeader}
use Rattle.headers.specs.Standard.{standard}
use Rattle.storage.specs.Storage.{storage}
use Rattle.parse.specs.Message.{maybe_extended_of}
use Rattle.storage.specs.declared.Stored.{Stored}
use Rattle.messageinfo.specs.declared.ExtendedHeader.{ExtendedHeader}

-- the storage header, the place behind it, where the standard header begins and from which on the declared length counts, and the two headers
pub record Opening : Type 0 where
  pub stored : Option Stored
  pub start : ℕ
  pub header : StandardHeader
  pub extended : Option ExtendedHeader

-- steps 3 and 4, behind the storage header
unfoldable pub opening_behind : Option Stored → Parser Opening
opening_behind stored = do
  start ← here
  header ← standard
  extended ← maybe_extended_of header.has_extended_header
  ret (record { stored = stored; start = start; header = header; extended = extended })

-- steps 2 to 4, in storage mode or not
unfoldable pub opening : Bool → Parser Opening
opening stored = choose stored (storage >>= opening_behind) (opening_behind None)
