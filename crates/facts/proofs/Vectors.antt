-- The twelve sums of document 01 that are marked P, in one statement, and some of needs and reasons. They compute.
use Prim.Native.Nat.{ℕ, suc}
use mathlib.Core.Path.{◌≡◌, refl}
use mathlib.Core.Bool.{Bool, true, false}
use mathlib.Core.List.{List, [], ◌∷◌, ◌++◌}
use lib.ListN.{replicate}
use Rattle.wire.specs.Answer.{Ans, Carried, Numbered}
use Rattle.wire.specs.Answer.Ans.{done, need, hickup, broken}
use Rattle.wire.specs.Parser.{◌>>=◌, ret, here, refuse, fail, choose, asking, having, fixed, times}
use Rattle.wire.specs.Number.{number, number_of, numeric}
use Rattle.wire.specs.Run.{bytes}
use Rattle.strings.specs.Text.{identified, text, ended_text, text_of, ended_of}
use Rattle.strings.specs.Utf8.{valid_up_to_of, up_to, sequence, among, formed}
use Rattle.mark.specs.First.{find, first_of_lem, stands_at_of}
use Rattle.headertype.specs.HeaderType.{all_headers, overall_length_of, header_type_byte_of}
use Rattle.headers.specs.Standard.{maybe_id, maybe_number_of, endian_of, header_of_lem, flagged, standard}
use Rattle.headers.specs.Extended.{extended_of_lem, named, extended}
use Rattle.messageinfo.specs.MessageInfo.{known_level, log_level_of, message_type_by}
use Rattle.storage.specs.Storage.{marked, storage, stored, owned}
use Rattle.filter.specs.Filter.{filter_of, fields, wanted, counts, field, tag_next, ending}
use Rattle.filtering.specs.FilteredOut.{filtered_out_of, drops_extended_of, drops_level_of, drops_id_of, drops_ecu_of}
use Rattle.payload.specs.Payload.{is_verbose_of, count_of, control_type_of, network_type_of, is_control_of, is_network_of, list_of, verbose, control, plain, payload}
use Rattle.payload.specs.declared.PayloadContent.{PayloadContent}
use Rattle.dlt.specs.TypeInfoWord.{type_info_of_lem, kind_by, coding_of_lem}
use Rattle.dlt.specs.declared.Argument.{Argument}
use Rattle.dlt.specs.declared.Value.{Value}
use Rattle.names.specs.Names.{maybe_name}
use Rattle.arguments.specs.Argument.{argument, type_info_of, decoded, kinded, boolean}
use Rattle.cursor.specs.Row.{walk}
use Rattle.cursor.specs.Cursor.{arguments, turn, called}
use Rattle.cursor.specs.declared.Cursor.{Cursor}
use Rattle.parse.specs.Message.{Answer, having_from, seen, maybe_extended_of, headers_of_lem, finished, headers, routed, is_big_of, item_of, passed, item, body, message, judged, message_of, numbered_answer}
use Rattle.parse.specs.declared.ParsedMessage.{ParsedMessage}

-- what a sum says of a message: the id of a plain payload, or the values of all arguments that its cursor hands out
pub data Sum : Type 0 where
  id : ℕ → Sum
  values : List Value → Sum
  other : Sum

abbrev pub values_of : List Argument → List Value
values_of [] = []
values_of (a ∷ rest) = a.value ∷ values_of rest

abbrev pub of_list : Ans (List Argument) → Sum
of_list (done all b) = Sum.values (values_of all)
of_list (need n) = Sum.other
of_list (hickup r) = Sum.other
of_list broken = Sum.other

-- the cursor is called once more than arguments are left, so that nothing stands behind them
abbrev pub of_payload : PayloadContent → List ℕ → Sum
of_payload (PayloadContent.Verbose c) s = of_list (walk (called s) (λ (c : Cursor). c.at) (suc c.left) c)
of_payload (PayloadContent.NonVerbose i r) s = Sum.id i
of_payload (PayloadContent.ControlMsg t r) s = Sum.other
of_payload (PayloadContent.NetworkTrace c) s = Sum.other

abbrev pub of_parsed : ParsedMessage → List ℕ → Sum
of_parsed (ParsedMessage.Item m) s = of_payload m.payload s
of_parsed (ParsedMessage.FilteredOut k) s = Sum.other

abbrev pub of_carried : Carried ParsedMessage → List ℕ → Carried Sum
of_carried (Carried.value p n) s = Carried.value (of_parsed p s) n
of_carried (Carried.need n) s = Carried.need n
of_carried (Carried.reason r) s = Carried.reason r
of_carried Carried.nothing s = Carried.nothing

-- document 01's number of the answer, and what it carries, of a message what the sum says of it
abbrev pub of_answer : Answer ParsedMessage → List ℕ → Numbered Sum
of_answer a s = record { number = (numbered_answer a).number; carries = of_carried (numbered_answer a).carries s }

-- with no filter; storage headers or not
abbrev pub sum : Bool → List ℕ → Numbered Sum
sum stored s = of_answer (message_of [] stored s) s

-- the rows of document 01's table that the sums name: an item and the bytes used, a need, a reason, nothing
abbrev pub item_of_lem : Sum → ℕ → Numbered Sum
item_of_lem x n = record { number = 0; carries = Carried.value x n }

abbrev pub needs : ℕ → Numbered Sum
needs n = record { number = 2; carries = Carried.need n }

abbrev pub hickups : ℕ → Numbered Sum
hickups r = record { number = 3; carries = Carried.reason r }

abbrev pub unrecoverable : Numbered Sum
unrecoverable = record { number = 4; carries = Carried.nothing }

pub sums :
    (sum false (0x20 ∷ 0x07 ∷ 0x00 ∷ 0x08 ∷ 0x00 ∷ 0x00 ∷ 0x00 ∷ 0x2A ∷ []) ≡ item_of_lem (Sum.id 704643072) 8)  -- P1
    × (sum false (0x22 ∷ 0x07 ∷ 0x00 ∷ 0x08 ∷ 0x00 ∷ 0x00 ∷ 0x00 ∷ 0x2A ∷ []) ≡ item_of_lem (Sum.id 42) 8)  -- P2
    × (sum false (0x20 ∷ 0x07 ∷ 0x00 ∷ 0x07 ∷ 0x00 ∷ 0x00 ∷ 0x00 ∷ 0x2A ∷ []) ≡ unrecoverable)  -- P3
    × (sum false (0x20 ∷ 0x07 ∷ 0x00 ∷ 0x03 ∷ []) ≡ hickups 1)  -- P4
    × (sum false (0x20 ∷ 0x07 ∷ 0x00 ∷ 0x08 ∷ 0x00 ∷ []) ≡ needs 3)  -- P5
    × (sum false [] ≡ needs 1)  -- P6
    × (sum false (0x24 ∷ 0x00 ∷ 0x00 ∷ 0x08 ∷ 0x41 ∷ []) ≡ needs 1)  -- P7
    × (sum false (0x24 ∷ 0x00 ∷ 0x00 ∷ 0x08 ∷ 0x41 ∷ 0x00 ∷ []) ≡ needs 2)  -- P8
    × (sum false (0x24 ∷ 0x00 ∷ 0x00 ∷ 0x07 ∷ 0x41 ∷ []) ≡ needs 1)  -- P9
    × (sum false (0x24 ∷ 0x00 ∷ 0x00 ∷ 0x07 ∷ 0x41 ∷ 0x42 ∷ 0x43 ∷ 0x44 ∷ []) ≡ hickups 1)  -- P9, with more bytes
    × (sum true (replicate 15 0) ≡ needs 0)  -- P10
    × (sum true (replicate 16 0) ≡ needs 1)  -- P11
    × (sum false (0x21 ∷ 0x00 ∷ 0x00 ∷ 0x0E ∷ 0x41 ∷ 0x01 ∷ 0x41 ∷ 0x50 ∷ 0x50 ∷ 0x00 ∷ 0x43 ∷ 0x54 ∷ 0x58 ∷ 0x00 ∷ 0x11 ∷ 0x00 ∷ 0x00 ∷ 0x00 ∷ 0x01 ∷ []) ≡ item_of_lem (Sum.values (Value.Bool 1 ∷ [])) 19)  -- P12
unfolding message_of judged filter_of fields wanted counts field tag_next ending message routed choose headers ◌>>=◌ here standard number fixed having asking number_of flagged maybe_id maybe_number_of identified text ended_text text_of ended_of valid_up_to_of up_to sequence among formed ret refuse header_of_lem endian_of all_headers overall_length_of header_type_byte_of finished maybe_extended_of extended named extended_of_lem known_level log_level_of message_type_by having_from seen headers_of_lem filtered_out_of drops_extended_of drops_level_of drops_id_of drops_ecu_of body item passed item_of payload is_verbose_of is_control_of control_type_of network_type_of count_of is_network_of is_big_of verbose list_of control plain bytes fail storage marked find first_of_lem stands_at_of stored owned arguments times turn argument type_info_of decoded kinded boolean maybe_name type_info_of_lem kind_by coding_of_lem numeric
sums = (refl, refl, refl, refl, refl, refl, refl, refl, refl, refl, refl, refl, refl)

-- P1 and P2 by name, and what P2's answer says, whatever bytes it is asked of
abbrev pub p1 : List ℕ
p1 = 0x20 ∷ 0x07 ∷ 0x00 ∷ 0x08 ∷ 0x00 ∷ 0x00 ∷ 0x00 ∷ 0x2A ∷ []

abbrev pub p2 : List ℕ
p2 = 0x22 ∷ 0x07 ∷ 0x00 ∷ 0x08 ∷ 0x00 ∷ 0x00 ∷ 0x00 ∷ 0x2A ∷ []

-- a verbose message of one argument, of whose one declared payload byte nothing is there; and one whose type info word is no type
abbrev pub v1 : List ℕ
v1 = 0x21 ∷ 0x00 ∷ 0x00 ∷ 0x0F ∷ 0x41 ∷ 0x01 ∷ 0x41 ∷ 0x50 ∷ 0x50 ∷ 0x00 ∷ 0x43 ∷ 0x54 ∷ 0x58 ∷ 0x00 ∷ []

abbrev pub v2 : List ℕ
v2 = 0x21 ∷ 0x00 ∷ 0x00 ∷ 0x12 ∷ 0x41 ∷ 0x01 ∷ 0x41 ∷ 0x50 ∷ 0x50 ∷ 0x00 ∷ 0x43 ∷ 0x54 ∷ 0x58 ∷ 0x00 ∷ 0x30 ∷ 0x00 ∷ 0x00 ∷ 0x00 ∷ []

pub others :
    ((s : List ℕ) → of_answer (message_of [] false p2) s ≡ item_of_lem (Sum.id 42) 8)
    × (sum false v1 ≡ needs 1)  -- the declared byte
    × (sum false (v1 ++ 0x00 ∷ []) ≡ needs 3)  -- and with it, the rest of the type info word
    × (sum false (0x20 ∷ []) ≡ needs 1)
    × (sum false (0x20 ∷ 0x00 ∷ []) ≡ needs 2)
    × (sum false v2 ≡ hickups 2)
unfolding message_of judged filter_of fields wanted counts field tag_next ending message routed choose headers ◌>>=◌ here standard number fixed having asking number_of flagged maybe_id maybe_number_of identified text ended_text text_of ended_of valid_up_to_of up_to sequence among formed ret refuse header_of_lem endian_of all_headers overall_length_of header_type_byte_of finished maybe_extended_of extended named extended_of_lem known_level log_level_of message_type_by having_from seen headers_of_lem filtered_out_of drops_extended_of drops_level_of drops_id_of drops_ecu_of body item passed item_of payload is_verbose_of is_control_of control_type_of network_type_of count_of is_network_of is_big_of verbose list_of control plain bytes fail storage marked find first_of_lem stands_at_of stored owned arguments times turn argument type_info_of decoded kinded boolean maybe_name type_info_of_lem kind_by coding_of_lem numeric
others = (λ s. refl, refl, refl, refl, refl, refl)

pub p2_says : (s : List ℕ) → of_answer (message_of [] false p2) s ≡ item_of_lem (Sum.id 42) 8
p2_says = others.0
