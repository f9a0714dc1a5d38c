-- P12 in the index: five bytes that belong to what comes next stay there, though `dlt_message` reads them as its argument. Assumes nothing.
use Prim.Native.Nat.{ℕ}
use mathlib.Core.Bool.{true}
use mathlib.Core.Path.{◌≡◌, refl}
use mathlib.Core.List.{List, [], ◌∷◌, ◌++◌}
use lib.ListN.{replicate}
use Rattle.wire.specs.Parser.{◌>>=◌, ret, here, refuse, fail, choose, asking, having, fixed, times}
use Rattle.wire.specs.Number.{number, number_of, numeric}
use Rattle.wire.specs.Run.{bytes}
use Rattle.strings.specs.Text.{identified, text, ended_text, text_of, ended_of}
use Rattle.strings.specs.Utf8.{valid_up_to_of, up_to, sequence, among, formed}
use Rattle.mark.specs.First.{find, first_of_lem, stands_at_of}
use Rattle.headertype.specs.HeaderType.{all_headers, overall_length_of, header_type_byte_of}
use Rattle.headers.specs.Standard.{maybe_id, maybe_number_of, endian_of, header_of_lem, flagged, standard}
use Rattle.headers.specs.Extended.{extended_of_lem, named, extended}
use Rattle.messageinfo.specs.MessageInfo.{known_level, log_level_of, message_type_by}
use Rattle.storage.specs.Storage.{marked, storage, stored, owned, stored_of}
use Rattle.filter.specs.Filter.{filter_of, fields, wanted, counts, field, tag_next, ending}
use Rattle.filtering.specs.FilteredOut.{filtered_out_of, drops_extended_of, drops_level_of, drops_id_of, drops_ecu_of}
use Rattle.payload.specs.Payload.{is_verbose_of, count_of, control_type_of, network_type_of, is_control_of, is_network_of, list_of, verbose, control, plain, payload}
use Rattle.dlt.specs.TypeInfoWord.{type_info_of_lem, kind_by, coding_of_lem}
use Rattle.dlt.specs.declared.Value.{Value}
use Rattle.names.specs.Names.{maybe_name}
use Rattle.arguments.specs.Argument.{argument, type_info_of, decoded, kinded, boolean}
use Rattle.cursor.specs.Cursor.{arguments, turn}
use Rattle.parse.specs.Message as parse
use Rattle.parse.specs.Message.{having_from, seen, maybe_extended_of, headers_of_lem, finished, headers, routed, is_big_of, item_of, passed, item, body, message, message_of}
use Rattle.facts.proofs.Vectors.{Sum, sum, item_of_lem}
use Rattle.confined.specs.Confined.{confined, inside_of_lem, inside, confined_body_of, confined_message_of}
use Rattle.table.specs.Over.{over}
use Rattle.walk.specs.Walk.{run}
use Rattle.step.specs.Step.{asked}
use Rattle.index.specs.Index.{Outcome, ahead, checked, judged, call, outcome}
use Rattle.index.specs.Calls.{fresh, unlimited}
use Rattle.index.specs.declared.End.{End}
use Rattle.index.proofs.Idle.{left}

-- P12's 14 bytes behind a storage header: verbose, one argument, and no payload declared
abbrev pub p12 : List ℕ
p12 = 0x44 ∷ 0x4C ∷ 0x54 ∷ 0x01 ∷ replicate 12 0 ++ (0x21 ∷ 0x00 ∷ 0x00 ∷ 0x0E ∷ 0x41 ∷ 0x01 ∷ 0x41 ∷ 0x50 ∷ 0x50 ∷ 0x00 ∷ 0x43 ∷ 0x54 ∷ 0x58 ∷ 0x00 ∷ [])

-- what its neighbour begins with: a bool, to who reads on
abbrev pub neighbour : List ℕ
neighbour = 0x11 ∷ 0x00 ∷ 0x00 ∷ 0x00 ∷ 0x01 ∷ []

abbrev pub overrun30 : Outcome ℕ
overrun30 = left 30 1 (End.Waits 0) (0 ∷ 0 ∷ 30 ∷ 4 ∷ replicate 4 9)

-- an overrun of 30 bytes, and the walk goes on behind it; before the neighbour came it was one already
walked_past :
    (outcome [] unlimited (p12 ++ neighbour) fresh (replicate 8 9) ≡ overrun30)
    × (outcome [] unlimited p12 fresh (replicate 8 9) ≡ overrun30)
unfolding call judged checked ahead run over asked filter_of fields wanted counts field tag_next ending confined_message_of confined_body_of confined inside inside_of_lem routed choose headers ◌>>=◌ here standard number fixed having asking number_of flagged maybe_id maybe_number_of identified text ended_text text_of ended_of valid_up_to_of up_to sequence among formed ret refuse header_of_lem endian_of all_headers overall_length_of header_type_byte_of finished maybe_extended_of having_from seen headers_of_lem filtered_out_of drops_extended_of drops_level_of drops_id_of drops_ecu_of body item passed item_of payload is_verbose_of is_control_of control_type_of network_type_of count_of is_network_of is_big_of verbose list_of control plain bytes fail storage marked find first_of_lem stands_at_of stored owned stored_of times numeric extended named extended_of_lem known_level log_level_of message_type_by arguments argument type_info_of decoded kinded boolean maybe_name type_info_of_lem kind_by coding_of_lem
walked_past = (refl, refl)

-- and to `dlt_message` an item of 35 bytes
borrowed : sum true (p12 ++ neighbour) ≡ item_of_lem (Sum.values (Value.Bool 1 ∷ [])) 35
unfolding message_of parse.judged filter_of fields wanted counts field tag_next ending message routed choose headers ◌>>=◌ here standard number fixed having asking number_of flagged maybe_id maybe_number_of identified text ended_text text_of ended_of valid_up_to_of up_to sequence among formed ret refuse header_of_lem endian_of all_headers overall_length_of header_type_byte_of finished maybe_extended_of extended named extended_of_lem known_level log_level_of message_type_by having_from seen headers_of_lem filtered_out_of drops_extended_of drops_level_of drops_id_of drops_ecu_of body item passed item_of payload is_verbose_of is_control_of control_type_of network_type_of count_of is_network_of is_big_of verbose list_of control plain bytes fail storage marked find first_of_lem stands_at_of stored owned arguments times turn argument type_info_of decoded kinded boolean maybe_name type_info_of_lem kind_by coding_of_lem numeric
borrowed = refl

pub borrows_nothing :
    (outcome [] unlimited (p12 ++ neighbour) fresh (replicate 8 9) ≡ overrun30)
    × (outcome [] unlimited p12 fresh (replicate 8 9) ≡ overrun30)
    × (sum true (p12 ++ neighbour) ≡ item_of_lem (Sum.values (Value.Bool 1 ∷ [])) 35)
borrows_nothing = (walked_past.0, walked_past.1, borrowed)
