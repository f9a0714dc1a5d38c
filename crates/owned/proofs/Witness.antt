-- P12 of document 01 in both readings, by computing: its declared bytes hold no payload, and an argument stands behind them. Assumes nothing.
use Prim.Native.Nat.{ℕ}
use mathlib.Core.Path.{◌≡◌, refl}
use mathlib.Core.Bool.{false}
use mathlib.Core.List.{List, [], ◌∷◌, ◌++◌}
use Rattle.wire.specs.Answer.Ans.{done}
use Rattle.wire.specs.Parser.{◌>>=◌, ret, here, refuse, fail, choose, asking, having, fixed, times}
use Rattle.wire.specs.Number.{number, number_of}
use Rattle.strings.specs.Text.{identified, text, ended_text, text_of, ended_of}
use Rattle.strings.specs.Utf8.{valid_up_to_of, up_to, sequence, among, formed}
use Rattle.headertype.specs.HeaderType.{all_headers, overall_length_of, header_type_byte_of}
use Rattle.headers.specs.Standard.{maybe_id, maybe_number_of, endian_of, header_of_lem, flagged, standard}
use Rattle.headers.specs.Extended.{extended_of_lem, named, extended}
use Rattle.messageinfo.specs.MessageInfo.{known_level, log_level_of, message_type_by}
use Rattle.filter.specs.Filter.{filter_of, fields, wanted, counts, field, tag_next, ending}
use Rattle.filtering.specs.FilteredOut.{filtered_out_of, drops_extended_of, drops_level_of, drops_id_of, drops_ecu_of}
use Rattle.payload.specs.Payload.{is_verbose_of, count_of, control_type_of, network_type_of, is_control_of, is_network_of, list_of, verbose, payload}
use Rattle.dlt.specs.declared.Value.{Value}
use Rattle.arguments.specs.Argument.{argument, type_info_of}
use Rattle.cursor.specs.Cursor.{arguments}
use Rattle.parse.specs.Message.{Answer, having_from, seen, maybe_extended_of, headers_of_lem, finished, headers, routed, is_big_of, item, body, message, judged, message_of}
use Rattle.facts.proofs.Vectors.{Sum, sum, item_of_lem, needs, sums}
use Rattle.confined.specs.Confined.{confined, inside, confined_body_of, confined_message_of, confined_message_of_lem}
use Rattle.confined.specs.declared.ConfinedMessage.{ConfinedMessage}

-- the declared bytes: headers of a verbose message with one argument, and no payload; and the five bytes behind them
abbrev pub declared14 : List ℕ
declared14 = 0x21 ∷ 0x00 ∷ 0x00 ∷ 0x0E ∷ 0x41 ∷ 0x01 ∷ 0x41 ∷ 0x50 ∷ 0x50 ∷ 0x00 ∷ 0x43 ∷ 0x54 ∷ 0x58 ∷ 0x00 ∷ []

abbrev pub behind5 : List ℕ
behind5 = 0x11 ∷ 0x00 ∷ 0x00 ∷ 0x00 ∷ 0x01 ∷ []

-- `dlt_message` takes the five bytes for the argument, and waits for them where they are missing; the confined reading is an overrun, with them or without
pub p12 :
    (sum false (declared14 ++ behind5) ≡ item_of_lem (Sum.values (Value.Bool 1 ∷ [])) 19)
    × (sum false declared14 ≡ needs 4)
    × (confined_message_of_lem [] false (declared14 ++ behind5) ≡ Answer.answered (done (ConfinedMessage.Overrun 0) 14))
    × (confined_message_of_lem [] false declared14 ≡ Answer.answered (done (ConfinedMessage.Overrun 0) 14))
unfolding confined_message_of_lem judged filter_of fields wanted counts field tag_next ending confined_message_of confined_body_of confined inside message_of message routed choose headers ◌>>=◌ here standard number fixed having asking number_of flagged maybe_id maybe_number_of identified text ended_text text_of ended_of valid_up_to_of up_to sequence among formed ret refuse header_of_lem endian_of all_headers overall_length_of header_type_byte_of finished maybe_extended_of extended named extended_of_lem known_level log_level_of message_type_by having_from seen headers_of_lem filtered_out_of drops_extended_of drops_level_of drops_id_of drops_ecu_of body item payload is_verbose_of is_control_of control_type_of network_type_of count_of is_network_of is_big_of verbose list_of fail arguments times argument type_info_of
p12 = (sums.12, refl, refl, refl)
