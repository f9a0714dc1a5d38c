-- THE HICKUP REASONS OF EACH CALL: those that come out, each shown by an input, and that no other does. So 3 comes out of none.
--     message-reasons    1 and 2           `dlt_message`
--     cursor-reasons     2                 `Cursor::next`
--     raw-reasons        2                 `RawCursor::next`
--     skip-reasons       4                 `skip_storage_header`
--     consume-reasons    1 and 4           `dlt_consume_msg`
--     construct-reasons  2, 5, 6 and 7     `construct_arguments`
--     signal-reasons     2, 5, 6 and 7     `SignalCursor::next`
--     no-info-refused    and an extended header, where 3 would come from, gives none, whatever its message info
--     never-3            so 3 comes out of no call
-- The other calls have no answer that is a Hickup. Assumes nothing.
use Prim.Native.Nat.{ℕ}
use native.Mathlib.Omega.{arith}
use mathlib.Core.Path.{◌≡◌, refl, sym, ap, ◌∙◌, subst}
use mathlib.Core.Bool.{Bool, true, false}
use mathlib.Core.List.{List, [], ◌∷◌, ◌++◌}
use lib.ListN.{replicate}
use Rattle.wire.specs.Answer.{Ans, Parser, Carried, Numbered, numbered}
use Rattle.wire.specs.Answer.Ans.{done, need, hickup, broken}
use Rattle.filter.specs.Filter.{filter_of, fields, wanted, counts, field, tag_next, ending}
use Rattle.filter.specs.declared.Filter.{Filter}
use Rattle.filter.specs.declared.FilterError.{FilterError}
use Rattle.std.specs.Prelude.{Result, Ok, Err}
use Rattle.parse.specs.Message.{message, judged, message_of, numbered_answer, routed, headers, finished, maybe_extended_of, having_from, seen, headers_of_lem, body, item, passed, item_of, is_big_of}
use Rattle.parse.specs.declared.ParsedMessage.{ParsedMessage}
use Rattle.wire.specs.Parser.{◌>>=◌, ret, here, refuse, choose, asking, having, fixed, fail, times}
use Rattle.wire.specs.Number.{number, number_of, numeric}
use Rattle.wire.specs.Run.{bytes}
use Rattle.strings.specs.Utf8.{valid_up_to_of, up_to, sequence, among, formed}
use Rattle.headertype.specs.Bits.{one_if_of}
use Rattle.headertype.specs.HeaderType.{all_headers, overall_length_of, header_type_byte_of}
use Rattle.headers.specs.Standard.{maybe_id, maybe_number_of, flagged, standard, header_of_lem, endian_of}
use Rattle.headers.specs.Extended.{extended, named, extended_of_lem}
use Rattle.storage.specs.Consume.{tagged, skip, from, whole, consume}
use Rattle.dlt.specs.TypeInfoWord.{type_info_of_lem, kind_by, coding_of_lem, unsigned_of, type_length_of, float_width_of}
use Rattle.arguments.specs.Argument.{argument, type_info_of, decoded, kinded, boolean}
use Rattle.cursor.specs.Cursor.{turn, arguments}
use Rattle.cursor.specs.Raw.{first_raw}
use Rattle.cursor.specs.declared.Cursor.{Cursor}
use Rattle.cursor.specs.declared.RawCursor.{RawCursor}
use Rattle.signals.specs.Signal as signalling
use Rattle.signals.specs.Signal.{utf8, fixed_width, content, in_data_of, signal}
use Rattle.signals.specs.Signals.{signals, constructed, signal_turn}
use Rattle.signals.specs.declared.SignalCursor.{SignalCursor}
use Rattle.facts.proofs.Vectors.{Sum, of_carried, sum, hickups, v2, sums, others}
use Rattle.strings.specs.Text.{identified, text, ended_text, text_of, ended_of}
use Rattle.messageinfo.specs.MessageInfo.{known_level, log_level_of, message_type_by}
use Rattle.filtering.specs.FilteredOut.{filtered_out_of, drops_extended_of, drops_level_of, drops_id_of, drops_ecu_of}
use Rattle.payload.specs.Payload.{payload, is_verbose_of, is_control_of, control_type_of, network_type_of, count_of, is_network_of, verbose, list_of, control, plain}
use Rattle.storage.specs.Storage.{storage, marked, stored, owned}
use Rattle.mark.specs.First.{find, first_of_lem, stands_at_of}
use Rattle.names.specs.Names.{maybe_name}
use Rattle.confined.specs.Confined.{confined, inside_of_lem, inside, confined_body_of, confined_message_of, confined_message_of_lem}
use Rattle.reasons.specs.Reasons.{is_one_of, Comes, Exactly, message_call, confined_call, cursor_call, raw_call, skip_call, consume_call, construct_call, signal_call, message_reasons, argument_reasons, skip_reasons, consume_reasons, signal_reasons}
use Rattle.reasons.proofs.Gives.{Of, Gives}
use Rattle.reasons.proofs.Rules.{extended_gives, message_gives, confined_message_gives, turn_gives, raw_gives, skip_gives, consume_gives, construct_gives, signal_turn_gives}

-- what is carried, told apart
abbrev sort : {A : Type 0} → Carried A → ℕ
sort (Carried.value a b) = 0
sort (Carried.need n) = 1
sort (Carried.reason r) = 2
sort Carried.nothing = 3

of_answer_lem : {A : Type 0} (all : List ℕ) (x : Ans A) → Of all x → (r : ℕ) → (numbered x).carries ≡ Carried.reason r → is_one_of r all ≡ true
of_answer_lem all (done a b) h r e = absurd (omega (arith, ap sort e))
of_answer_lem all (need n) h r e = absurd (omega (arith, ap sort e))
of_answer_lem all (hickup q) h r e = let z : q ≡ r = cc in subst (λ (k : ℕ). is_one_of k all ≡ true) z h
of_answer_lem all broken h r e = absurd (omega (arith, ap sort e))

-- a rule's reasons are the call's
of_rule : {A : Type 0} {p : Parser A} {all : List ℕ} → Gives all p → (s : List ℕ) (at r : ℕ) → (numbered (p s at)).carries ≡ Carried.reason r → is_one_of r all ≡ true
of_rule {A} {p} {all} h s at r e = of_answer_lem all (p s at) (h.gives s at) r e

-- ---- one message
judged_only : {A : Type 0} (rule : Filter → Parser A) → ((filter : Filter) → Gives message_reasons (rule filter)) → (s : List ℕ) (v : Result Filter FilterError) (r : ℕ)
    → (numbered_answer (judged (λ filter. rule filter s 0) v)).carries ≡ Carried.reason r → is_one_of r message_reasons ≡ true
unfolding judged
judged_only rule h s (Ok filter) r e = of_rule (h filter) s 0 r e
judged_only rule h s (Err FilterError.Retired) r e = absurd (omega (arith, ap sort e))
judged_only rule h s (Err FilterError.Bad) r e = absurd (omega (arith, ap sort e))

-- what a sum says of a reason, the message's answer says
of_sum : (c : Carried ParsedMessage) (s : List ℕ) (r : ℕ) → of_carried c s ≡ Carried.reason r → c ≡ Carried.reason r
of_sum (Carried.value a b) s r e = absurd (omega (arith, ap sort e))
of_sum (Carried.need n) s r e = absurd (omega (arith, ap sort e))
of_sum (Carried.reason q) s r e = let z : q ≡ r = cc in ap Carried.reason z
of_sum Carried.nothing s r e = absurd (omega (arith, ap sort e))

summed : (s : List ℕ) (r : ℕ) → sum false s ≡ hickups r → Comes message_call r
summed s r e = (([], false, s), of_sum _ s r (ap (λ (x : Numbered Sum). x.carries) e))

pub message_reasons_lem : Exactly message_call message_reasons
unfolding message_of
message_reasons_lem = record {
  only = λ i r e. judged_only (λ filter. message i.0 filter i.1) (λ filter. message_gives message_reasons refl refl i.0 filter i.1) i.2 (filter_of i.0) r e;
  each = (summed _ 1 sums.3, (summed _ 2 others.5, tt));
}

-- the confined reading of P4; and of the same word that is no type, whole within the declared bytes
confined_comes : Comes confined_call 1 × Comes confined_call 2
unfolding confined_message_of_lem confined_message_of confined_body_of confined inside inside_of_lem judged filter_of fields wanted counts field tag_next ending routed choose headers ◌>>=◌ here standard number fixed having asking number_of flagged maybe_id maybe_number_of identified text ended_text text_of ended_of valid_up_to_of up_to sequence among formed ret refuse header_of_lem endian_of all_headers overall_length_of header_type_byte_of finished maybe_extended_of extended named extended_of_lem known_level log_level_of message_type_by having_from seen headers_of_lem filtered_out_of drops_extended_of drops_level_of drops_id_of drops_ecu_of body item passed item_of payload is_verbose_of is_control_of control_type_of network_type_of count_of is_network_of is_big_of verbose list_of control plain bytes fail storage marked find first_of_lem stands_at_of stored owned arguments times turn argument type_info_of decoded kinded boolean maybe_name type_info_of_lem kind_by coding_of_lem numeric
confined_comes = ((([], false, 0x20 ∷ 0x07 ∷ 0x00 ∷ 0x03 ∷ []), refl), (([], false, v2), refl))

pub confined_reasons : Exactly confined_call message_reasons
unfolding confined_message_of_lem
confined_reasons = record {
  only = λ i r e. judged_only (λ filter. confined_message_of i.0 filter i.1) (λ filter. confined_message_gives message_reasons refl refl i.0 filter i.1) i.2 (filter_of i.0) r e;
  each = (confined_comes.0, (confined_comes.1, tt));
}

-- ---- arguments one by one: a word with two types at once
abbrev no_type : List ℕ
no_type = 0x30 ∷ 0x00 ∷ 0x00 ∷ 0x00 ∷ []

pub cursor_reasons : Exactly cursor_call argument_reasons
unfolding turn choose argument here type_info_of ◌>>=◌ number fixed having asking number_of decoded type_info_of_lem kind_by coding_of_lem
cursor_reasons = record {
  only = λ i r e. of_rule (turn_gives argument_reasons refl i.0) i.1 i.0.at r e;
  each = (((record { at = 0; left = 1; big = false }, no_type), refl), tt);
}

pub raw_reasons : Exactly raw_call argument_reasons
unfolding first_raw argument here type_info_of ◌>>=◌ number fixed having asking number_of decoded type_info_of_lem kind_by coding_of_lem
raw_reasons = record {
  only = λ i r e. of_rule (raw_gives argument_reasons refl i.0.big i.0.left) i.1 i.0.at r e;
  each = (((record { at = 0; left = 1; big = false }, no_type), refl), tt);
}

-- ---- storage mode: another first byte than `D`; a declared length of 3 behind a storage header
pub skip_reasons_lem : Exactly skip_call skip_reasons
unfolding skip tagged ◌>>=◌
skip_reasons_lem = record {
  only = λ i r e. of_rule (skip_gives skip_reasons refl) i.0 i.1 r e;
  each = (((0x00 ∷ [], 0), refl), tt);
}

pub consume_reasons_lem : Exactly consume_call consume_reasons
unfolding consume skip tagged ◌>>=◌ bytes fixed having asking ret here whole from standard number number_of flagged choose maybe_id maybe_number_of all_headers refuse
consume_reasons_lem = record {
  only = λ i r e. of_rule (consume_gives consume_reasons refl refl) i.0 i.1 r e;
  each = (((0x44 ∷ 0x4C ∷ 0x54 ∷ 0x01 ∷ replicate 12 0 ++ 0x20 ∷ 0x00 ∷ 0x00 ∷ 0x03 ∷ [], 0), refl), (((0x00 ∷ [], 0), refl), tt));
}

-- ---- signal data: a word with two types at once; a bool that isn't there; a string that is no UTF-8; a fixed-point word
abbrev two_types : List ℕ
two_types = 0x30 ∷ []

abbrev bool : List ℕ
bool = 0x11 ∷ []

abbrev string : List ℕ
string = 0x200 ∷ []

abbrev no_utf8 : List ℕ
no_utf8 = 0x02 ∷ 0x00 ∷ 0xC3 ∷ 0x28 ∷ []

abbrev fixed_point_lem : List ℕ
fixed_point_lem = 0x1043 ∷ []

pub construct_reasons : Exactly construct_call signal_reasons
unfolding constructed signals signal ◌>>=◌ decoded type_info_of_lem kind_by coding_of_lem unsigned_of type_length_of float_width_of in_data_of content signalling.whole here number fixed having asking number_of utf8 valid_up_to_of up_to sequence among formed fixed_width refuse ret
construct_reasons = record {
  only = λ i r e. of_rule (construct_gives signal_reasons refl refl refl refl i.0 i.1) i.2 0 r e;
  each = (((false, two_types, []), refl), (((false, bool, []), refl), (((false, string, no_utf8), refl), (((false, fixed_point_lem, no_utf8), refl), tt))));
}

abbrev first : SignalCursor
first = record { at = 0; word = 0; big = false }

pub signal_reasons_lem : Exactly signal_call signal_reasons
unfolding signal_turn choose signal ◌>>=◌ decoded type_info_of_lem kind_by coding_of_lem unsigned_of type_length_of float_width_of in_data_of content signalling.whole here number fixed having asking number_of utf8 valid_up_to_of up_to sequence among formed fixed_width refuse ret
signal_reasons_lem = record {
  only = λ i r e. of_rule (signal_turn_gives signal_reasons refl refl refl refl i.1 i.0) i.2 i.0.at r e;
  each = (((first, two_types, []), refl), (((first, bool, []), refl), (((first, string, no_utf8), refl), (((first, fixed_point_lem, no_utf8), refl), tt))));
}

-- ---- REASON 3 NEVER COMES OUT
-- it would be a message info that `MessageType::try_from` doesn't accept, and the extended header is where one is read: whatever it is, it is no Hickup
pub no_info_refused : (s : List ℕ) (at r : ℕ) → extended s at ≡ hickup r → ⊥
no_info_refused s at r e = let z : false ≡ true = subst (Of []) e ((extended_gives []).gives s at) in absurd (omega (arith, ap one_if_of z))

struck : {I A : Type 0} (call : I → Numbered A) (all : List ℕ) → Exactly call all → is_one_of 3 all ≡ false → (i : I) → (call i).carries ≡ Carried.reason 3 → ⊥
struck call all x none i e = let z : true ≡ false = sym (x.only i 3 e) ∙ none in absurd (omega (arith, ap one_if_of z))

pub never_3 :
    ((i : List ℕ × Bool × List ℕ) → (message_call i).carries ≡ Carried.reason 3 → ⊥)
    × ((i : Cursor × List ℕ) → (cursor_call i).carries ≡ Carried.reason 3 → ⊥)
    × ((i : RawCursor × List ℕ) → (raw_call i).carries ≡ Carried.reason 3 → ⊥)
    × ((i : List ℕ × ℕ) → (skip_call i).carries ≡ Carried.reason 3 → ⊥)
    × ((i : List ℕ × ℕ) → (consume_call i).carries ≡ Carried.reason 3 → ⊥)
    × ((i : Bool × List ℕ × List ℕ) → (construct_call i).carries ≡ Carried.reason 3 → ⊥)
    × ((i : SignalCursor × List ℕ × List ℕ) → (signal_call i).carries ≡ Carried.reason 3 → ⊥)
never_3 = (
  struck message_call _ message_reasons_lem refl,
  struck cursor_call _ cursor_reasons refl,
  struck raw_call _ raw_reasons refl,
  struck skip_call _ skip_reasons_lem refl,
  struck consume_call _ consume_reasons_lem refl,
  struck construct_call _ construct_reasons refl,
  struck signal_call _ signal_reasons_lem refl,
)
