-- Document 01's trace of 45 bytes, computed; and the idle indexes that the contract shuts out: one that writes nothing, one that works in the first call
-- and later hands back the old state, one that invents needs or skipped bytes. Assumes nothing.
use Prim.Native.Nat.{ℕ}
use mathlib.Core.Path.{◌≡◌, refl, sym, ap, ◌∙◌}
use mathlib.Core.List.{List, [], ◌∷◌, ◌++◌}
use native.Mathlib.Omega.{arith}
use lib.ListN.{replicate, get_or}
use Rattle.wire.specs.Parser.{◌>>=◌, ret, here, refuse, fail, choose, asking, having, fixed, times}
use Rattle.wire.specs.Number.{number, number_of, numeric}
use Rattle.wire.specs.Run.{bytes}
use Rattle.strings.specs.Text.{identified, text, ended_text, text_of, ended_of}
use Rattle.strings.specs.Utf8.{valid_up_to_of, up_to, sequence, among, formed}
use Rattle.mark.specs.First.{find, first_of_lem, stands_at_of}
use Rattle.headertype.specs.HeaderType.{all_headers, overall_length_of, header_type_byte_of}
use Rattle.headers.specs.Standard.{maybe_id, maybe_number_of, endian_of, header_of_lem, flagged, standard}
use Rattle.storage.specs.Storage.{marked, storage, stored, owned, stored_of}
use Rattle.filter.specs.Filter.{filter_of, fields, wanted, counts, field, tag_next, ending}
use Rattle.filtering.specs.FilteredOut.{filtered_out_of, drops_extended_of, drops_level_of, drops_id_of, drops_ecu_of}
use Rattle.payload.specs.Payload.{is_verbose_of, count_of, control_type_of, network_type_of, is_control_of, is_network_of, list_of, verbose, control, plain, payload}
use Rattle.parse.specs.Message.{having_from, seen, maybe_extended_of, headers_of_lem, finished, headers, routed, is_big_of, item_of, passed, item, body}
use Rattle.confined.specs.Confined.{confined, inside_of_lem, inside, confined_body_of, confined_message_of}
use Rattle.table.specs.Over.{over}
use Rattle.walk.specs.Walk.{run}
use Rattle.step.specs.Step.{asked}
use Rattle.index.specs.Index.{Outcome, flat_form, ahead, checked, judged, call, outcome}
use Rattle.index.specs.Calls.{fresh, unlimited, next}
use Rattle.index.specs.declared.State.{State}
use Rattle.index.specs.declared.End.{End}
use Rattle.index.proofs.Promises.{demand_3}
use Rattle.index.proofs.Flat.{flat_sound}

abbrev pub first30 : List ℕ
first30 =
    0x44 ∷ 0x4C ∷ 0x54 ∷ 0x01 ∷ 0x01 ∷ 0 ∷ 0 ∷ 0 ∷ 0x02 ∷ 0 ∷ 0 ∷ 0 ∷ 0x45 ∷ 0x43 ∷ 0x55 ∷ 0
    ∷ 0x20 ∷ 0x07 ∷ 0 ∷ 0x08 ∷ 0 ∷ 0 ∷ 0 ∷ 0x2A
    ∷ 0xFF
    ∷ 0x44 ∷ 0x4C ∷ 0x54 ∷ 0x01 ∷ 0 ∷ []

abbrev pub last15 : List ℕ
last15 = 0 ∷ 0 ∷ 0 ∷ 0 ∷ 0 ∷ 0 ∷ 0 ∷ 0 ∷ 0 ∷ 0 ∷ 0 ∷ 0x20 ∷ 0x08 ∷ 0 ∷ 0x03 ∷ []

abbrev pub state : ℕ → ℕ → State
state at used = record { at = at; used = used }

-- from the fresh state, so that as many entries are used as were taken
abbrev pub left : ℕ → ℕ → End → List ℕ → Outcome ℕ
left at used end T = record { answer = record { state = state at used; taken = used; end = end }; table = T }

abbrev pub item24 : List ℕ
item24 = 0 ∷ 0 ∷ 24 ∷ 0 ∷ []

abbrev pub hickup25 : List ℕ
hickup25 = 25 ∷ 1 ∷ 4 ∷ 2 ∷ []

-- all 45 bytes: an item, a hickup behind one byte skipped, and then it waits at 29 for one byte; the first 30 alone; tables of one and of none
pub trace :
    (outcome [] unlimited (first30 ++ last15) fresh (replicate 12 9) ≡ left 29 2 (End.Waits 1) (item24 ++ hickup25 ++ replicate 4 9))
    × (outcome [] unlimited first30 fresh (replicate 12 9) ≡ left 24 1 (End.Waits 0) (item24 ++ replicate 8 9))
    × (outcome [] unlimited (first30 ++ last15) fresh (replicate 4 9) ≡ left 24 1 End.Full item24)
    × (outcome [] unlimited (first30 ++ last15) fresh [] ≡ left 0 0 End.Full [])
unfolding call judged checked ahead run over asked filter_of fields wanted counts field tag_next ending confined_message_of confined_body_of confined inside inside_of_lem routed choose headers ◌>>=◌ here standard number fixed having asking number_of flagged maybe_id maybe_number_of identified text ended_text text_of ended_of valid_up_to_of up_to sequence among formed ret refuse header_of_lem endian_of all_headers overall_length_of header_type_byte_of finished maybe_extended_of having_from seen headers_of_lem filtered_out_of drops_extended_of drops_level_of drops_id_of drops_ecu_of body item passed item_of payload is_verbose_of is_control_of control_type_of network_type_of count_of is_network_of is_big_of verbose list_of control plain bytes fail storage marked find first_of_lem stands_at_of stored owned stored_of times numeric
trace = (refl, refl, refl, refl)

-- it gives way after one entry; after two, though nothing is left to read; after one, though the table is full; and after none
pub gives_way :
    (outcome [] 1 (first30 ++ last15) fresh (replicate 12 9) ≡ left 24 1 End.Paused (item24 ++ replicate 8 9))
    × (outcome [] 2 (first30 ++ last15) fresh (replicate 12 9) ≡ left 29 2 End.Paused (item24 ++ hickup25 ++ replicate 4 9))
    × (outcome [] 1 (first30 ++ last15) fresh (replicate 4 9) ≡ left 24 1 End.Paused item24)
    × (outcome [] 0 (first30 ++ last15) fresh (replicate 12 9) ≡ left 0 0 End.Paused (replicate 12 9))
unfolding call judged checked ahead run over asked filter_of fields wanted counts field tag_next ending confined_message_of confined_body_of confined inside inside_of_lem routed choose headers ◌>>=◌ here standard number fixed having asking number_of flagged maybe_id maybe_number_of identified text ended_text text_of ended_of valid_up_to_of up_to sequence among formed ret refuse header_of_lem endian_of all_headers overall_length_of header_type_byte_of finished maybe_extended_of having_from seen headers_of_lem filtered_out_of drops_extended_of drops_level_of drops_id_of drops_ecu_of body item passed item_of payload is_verbose_of is_control_of control_type_of network_type_of count_of is_network_of is_big_of verbose list_of control plain bytes fail storage marked find first_of_lem stands_at_of stored owned stored_of times numeric
gives_way = (refl, refl, refl, refl)

-- ---- a is what an index leaves, as its contract has it

-- one that writes nothing
pub writes : (a : Outcome ℕ) → outcome [] unlimited (first30 ++ last15) fresh (replicate 12 9) ≡ a → a.table ≡ replicate 12 9 → ⊥
writes a e idle =
    let z : ◌≡◌ {A = ℕ} 0 9 = ap (λ (x : Outcome ℕ). get_or x.table 0 7) (sym trace.0 ∙ e) ∙ ap (λ (T : List ℕ). get_or T 0 7) idle in
    omega arith

-- one that works in the first call and later hands back the old state
pub goes_on : (a : Outcome ℕ) → next flat_form [] unlimited (first30 ++ last15) fresh (outcome [] unlimited first30 fresh (replicate 12 9)) ≡ a
    → a.answer.state ≡ (outcome [] unlimited first30 fresh (replicate 12 9)).answer.state → ⊥
goes_on a e old =
    let whole : left 29 2 (End.Waits 1) (item24 ++ hickup25 ++ replicate 4 9) ≡ a =
    sym trace.0 ∙ sym (demand_3 flat_form flat_sound [] unlimited first30 last15 fresh (replicate 12 9) (omega arith)) ∙ e in
    let z : ◌≡◌ {A = ℕ} 29 24 = ap (λ (x : Outcome ℕ). x.answer.state.at) whole ∙ ap (λ (x : State). x.at) old ∙ ap (λ (x : Outcome ℕ). x.answer.state.at) trace.1 in
    omega arith

-- one that invents needs or skipped bytes: the need is 1, and so many bytes were skipped before the second entry
pub invents_nothing : (a : Outcome ℕ) → outcome [] unlimited (first30 ++ last15) fresh (replicate 12 9) ≡ a → (a.answer.end ≡ End.Waits 1) × (get_or a.table 5 0 ≡ 1)
invents_nothing a e =
    let w : a ≡ left 29 2 (End.Waits 1) (item24 ++ hickup25 ++ replicate 4 9) = sym e ∙ trace.0 in
    (ap (λ (x : Outcome ℕ). x.answer.end) w, ap (λ (x : Outcome ℕ). get_or x.table 5 0) w)
