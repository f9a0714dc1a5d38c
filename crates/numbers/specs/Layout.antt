-- The numbers of a message, in the order in which a host finds them in the slice that it lends. A place is counted from 0. What is absent has
-- 0 for its flag and for its values. An identifier or a run of bytes is its place in the bytes of the message and its length; why an identifier ended stands
-- behind everything else.
use Rattle.std.specs.Prelude.{ℕ, Bool, true, false, List, [], ◌∷◌, ◌++◌, length, leb, Option, Some, None}
use Rattle.wire.specs.Parser.{pick}
use Rattle.table.specs.Over.{over}
use Rattle.headertype.specs.declared.Endianness.{Endianness}
use Rattle.wire.specs.declared.Ended.{Ended}
use Rattle.headertype.specs.declared.StandardHeader.{StandardHeader}
-- the type and the subtype of a message are the numbers that its message info had: messageinfo, specs/Kept.antt
use Rattle.messageinfo.specs.Kept.{control_number_of, type_number_of, subtype_number_of}
use Rattle.payload.specs.declared.PayloadContent.{PayloadContent}
use Rattle.parse.specs.declared.Message.{Message}
use Rattle.parse.specs.declared.ParsedMessage.{ParsedMessage}
use Rattle.storage.specs.declared.Stored.{Stored}
use Rattle.messageinfo.specs.declared.ExtendedHeader.{ExtendedHeader}
use Rattle.wire.specs.declared.Text.{Text}

abbrev pub one_if_of : Bool → ℕ
one_if_of true = 1
one_if_of false = 0

-- 1 for big-endian
abbrev pub order_number : Endianness → ℕ
order_number Endianness.Little = 0
order_number Endianness.Big = 1

-- ---- present or not, start, length; present or not, the number
unfoldable pub text_numbers : Option Text → List ℕ
text_numbers (Some t) = 1 ∷ t.place.start ∷ t.place.len ∷ []
text_numbers None = 0 ∷ 0 ∷ 0 ∷ []

unfoldable pub num_numbers : Option ℕ → List ℕ
num_numbers (Some n) = 1 ∷ n ∷ []
num_numbers None = 0 ∷ 0 ∷ []

-- ---- from place 2 on, six: present or not, seconds, microseconds, ECU id, bytes skipped before the pattern
unfoldable pub storage_numbers : Option Stored → List ℕ
storage_numbers (Some x) =
    1 ∷ x.header.timestamp.seconds ∷ x.header.timestamp.microseconds ∷ x.header.ecu_id.place.start ∷ x.header.ecu_id.place.len ∷ x.skipped ∷ []
storage_numbers None = 0 ∷ 0 ∷ 0 ∷ 0 ∷ 0 ∷ 0 ∷ []

-- ---- from place 8 on, eleven: version, big-endian or not, extended header or not, counter; ECU id; session id; timestamp
unfoldable pub front_numbers : StandardHeader → List ℕ
front_numbers h = h.version ∷ order_number h.endianness ∷ one_if_of h.has_extended_header ∷ h.message_counter ∷ []

unfoldable pub standard_numbers : StandardHeader → List ℕ
standard_numbers h = ((front_numbers h ++ text_numbers h.ecu_id) ++ num_numbers h.session_id) ++ num_numbers h.timestamp

-- ---- from place 19 on, nine: present or not, verbose or not, argument count, type, subtype, application id, context id
unfoldable pub extended_numbers : Option ExtendedHeader → List ℕ
extended_numbers (Some x) =
    1
    ∷ one_if_of x.verbose
    ∷ x.argument_count
    ∷ type_number_of x.message_type
    ∷ subtype_number_of x.message_type
    ∷ x.application_id.place.start
    ∷ x.application_id.place.len
    ∷ x.context_id.place.start
    ∷ x.context_id.place.len
    ∷ []
extended_numbers None = 0 ∷ 0 ∷ 0 ∷ 0 ∷ 0 ∷ 0 ∷ 0 ∷ 0 ∷ 0 ∷ []

-- ---- from place 28 on, five: kind, id, start, length, big-endian or not. Of a list of arguments it is the cursor: where the next stands, how
-- many are left
unfoldable pub payload_numbers : PayloadContent → List ℕ
payload_numbers (PayloadContent.Verbose c) = 0 ∷ 0 ∷ c.at ∷ c.left ∷ one_if_of c.big ∷ []
payload_numbers (PayloadContent.NonVerbose id r) = 1 ∷ id ∷ r.start ∷ r.len ∷ 0 ∷ []
payload_numbers (PayloadContent.ControlMsg t r) = 2 ∷ control_number_of t ∷ r.start ∷ r.len ∷ 0 ∷ []
payload_numbers (PayloadContent.NetworkTrace c) = 3 ∷ 0 ∷ c.at ∷ c.left ∷ one_if_of c.big ∷ []

-- ---- why a text ended: 1 at a zero byte, 2 at its size, 3 at bytes that are no UTF-8; 0 where there is no text
abbrev pub ended_number_of : Ended → ℕ
ended_number_of Ended.Zero = 1
ended_number_of Ended.Size = 2
ended_number_of Ended.Invalid = 3

abbrev pub text_end_of : Option Text → ℕ
text_end_of (Some t) = ended_number_of t.ended
text_end_of None = 0

abbrev pub stored_end_of : Option Stored → ℕ
stored_end_of (Some x) = ended_number_of x.header.ecu_id.ended
stored_end_of None = 0

abbrev pub application_end_of : Option ExtendedHeader → ℕ
application_end_of (Some x) = ended_number_of x.application_id.ended
application_end_of None = 0

abbrev pub context_end_of : Option ExtendedHeader → ℕ
context_end_of (Some x) = ended_number_of x.context_id.ended
context_end_of None = 0

-- ---- from place 33 on, four: the storage header's ECU id, the standard header's, application id, context id
unfoldable pub end_numbers : Option Stored → StandardHeader → Option ExtendedHeader → List ℕ
end_numbers o h x = stored_end_of o ∷ text_end_of h.ecu_id ∷ application_end_of x ∷ context_end_of x ∷ []

-- ---- an item: 0 and the payload length in front
unfoldable pub lead_numbers : Option Stored → StandardHeader → List ℕ
lead_numbers o h = ((0 ∷ h.payload_length ∷ []) ++ storage_numbers o) ++ standard_numbers h

unfoldable pub item_numbers : Message → List ℕ
item_numbers m =
    ((lead_numbers m.storage_header m.header ++ extended_numbers m.extended_header) ++ payload_numbers m.payload)
    ++ end_numbers m.storage_header m.header m.extended_header

-- a message that was filtered out: 1 and the payload length, and no more
unfoldable pub message_numbers : ParsedMessage → List ℕ
message_numbers (ParsedMessage.Item m) = item_numbers m
message_numbers (ParsedMessage.FilteredOut n) = 1 ∷ n ∷ []

-- how many numbers there may be, and what is left in a slice: nothing is written into one that is too short for any message
abbrev pub message_size : ℕ
message_size = 37

unfoldable pub message_laid : List ℕ → ParsedMessage → List ℕ
message_laid T p = pick (leb message_size (length T)) (over T 0 (message_numbers p)) T
