-- Document 01, "One message, step by step".
use Rattle.std.specs.Prelude.{ℕ, ◌-◌, Bool, true, false, List, length, leb, Result, Ok, Err, Option, Some, None}
use Rattle.wire.specs.Answer.{Ans, Parser, Numbered, numbered}
use Rattle.wire.specs.Answer as wire
use Rattle.wire.specs.Answer.Ans.{done, need}
use Rattle.wire.specs.Parser.{pick, ret, here, choose, lacking, ◌>>=◌}
use Rattle.wire.specs.Run.{bytes}
use Rattle.headertype.specs.HeaderType.{overall_length_of}
use Rattle.headertype.specs.declared.Endianness.{Endianness}
use Rattle.headertype.specs.declared.StandardHeader.{StandardHeader}
use Rattle.headers.specs.Standard.{standard}
use Rattle.headers.specs.Extended.{extended}
use Rattle.storage.specs.Storage.{storage}
use Rattle.filter.specs.Filter.{filter_of}
use Rattle.filter.specs.declared.Filter.{Filter}
use Rattle.filter.specs.declared.FilterError.{FilterError}
use Rattle.filtering.specs.FilteredOut.{filtered_out_of}
use Rattle.payload.specs.Payload.{payload}
use Rattle.payload.specs.declared.PayloadContent.{PayloadContent}
use Rattle.parse.specs.declared.Headers.{Headers}
use Rattle.parse.specs.declared.ParsedMessage.{ParsedMessage}
use Rattle.storage.specs.declared.Stored.{Stored}
use Rattle.messageinfo.specs.declared.ExtendedHeader.{ExtendedHeader}

-- p, once n bytes stand at an earlier position; the need is their shortfall there
unfoldable pub having_from : {A : Type 0} → ℕ → ℕ → Parser A → Parser A
having_from start n p s at = pick (leb n (length s - start)) (p s at) (need (lacking n s start))

-- a value that is told from the bytes, and takes none
unfoldable pub seen : {A : Type 0} → (List ℕ → A) → Parser A
seen f s at = done (f s) at

-- step 4: the extended header, if flagged
unfoldable pub maybe_extended_of : Bool → Parser (Option ExtendedHeader)
maybe_extended_of t = choose t (extended >>= (λ x. ret (Some x))) (ret None)

-- step 6: what the headers are, and whether the filter, read from the bytes f, drops the message
unfoldable pub headers_of_lem : List ℕ → Filter → Option Stored → StandardHeader → Option ExtendedHeader → List ℕ → Headers
headers_of_lem f filter stored h e s = record {
  storage_header = stored;
  header = h;
  extended_header = e;
  filtered = filtered_out_of f filter s e h.ecu_id;
}

-- step 5: fewer bytes than the declared length behind the storage header; given only after the extended header is read
unfoldable pub finished : List ℕ → Filter → Option Stored → ℕ → StandardHeader → Parser Headers
finished f filter stored start h = do
  e ← maybe_extended_of h.has_extended_header
  having_from start (overall_length_of h) (seen (headers_of_lem f filter stored h e))

-- steps 3 to 6, behind the storage header
unfoldable pub headers : List ℕ → Filter → Option Stored → Parser Headers
headers f filter stored = do
  start ← here
  h ← standard
  finished f filter stored start h

-- steps 2 to 6
unfoldable pub routed : List ℕ → Filter → Bool → Parser Headers
routed f filter stored = choose stored (storage >>= (λ o. headers f filter o)) (headers f filter None)

unfoldable pub is_big_of : Endianness → Bool
is_big_of Endianness.Little = false
is_big_of Endianness.Big = true

unfoldable pub item_of : Headers → PayloadContent → ParsedMessage
item_of h p = ParsedMessage.Item (record { storage_header = h.storage_header; header = h.header; extended_header = h.extended_header; payload = p })

-- a message filtered out uses its declared length and answers the payload length
unfoldable pub passed : ℕ → Parser ParsedMessage
passed n = do
  all ← bytes n
  ret (ParsedMessage.FilteredOut n)

-- step 7
unfoldable pub item : Headers → Parser ParsedMessage
item h = do
  p ← payload (is_big_of h.header.endianness) h.extended_header h.header.payload_length
  ret (item_of h p)

unfoldable pub body : Headers → Parser ParsedMessage
body h = choose h.filtered (passed h.header.payload_length) (item h)

-- the message rule, with a filter that is good: headers, length and filter, then the payload
unfoldable pub message : List ℕ → Filter → Bool → Parser ParsedMessage
message f filter stored = routed f filter stored >>= body

-- step 1 comes before anything else: BadFilter, RetiredTag, or what a rule answers with a good filter
pub data Answer (A : Type 0) : Type 0 where
  bad_filter : Answer A
  retired_tag : Answer A
  answered : Ans A → Answer A

unfoldable pub judged : {A : Type 0} → (Filter → Ans A) → Result Filter FilterError → Answer A
judged rule (Ok filter) = Answer.answered (rule filter)
judged rule (Err FilterError.Retired) = Answer.retired_tag
judged rule (Err FilterError.Bad) = Answer.bad_filter

unfoldable pub message_of : List ℕ → Bool → List ℕ → Answer ParsedMessage
message_of f stored s = judged (λ filter. message f filter stored s 0) (filter_of f)

-- document 01's number of each answer, and what it carries
abbrev pub numbered_answer : {A : Type 0} → Answer A → Numbered A
numbered_answer Answer.bad_filter = wire.bad_filter
numbered_answer Answer.retired_tag = wire.retired_tag
numbered_answer (Answer.answered x) = numbered x
