-- The lemmas of a message that was told at a glance, for `search`, and that what is answered is what the message rule says. Assumes nothing.
use Prim.Native.Nat.{ℕ, zero, suc, ◌+◌, ◌-◌, ◌/◌, ◌%◌, ◌≤◌, ◌<◌}
use native.Mathlib.Omega.{arith}
use mathlib.Core.Path.{◌≡◌, refl, sym, ap, ◌∙◌}
use mathlib.Core.Bool.{Bool, true, false}
use mathlib.Core.List.{List}
use lib.ListN.{length, get_or}
use lib.Dec.{eqb}
use borrow.Author.Tests.{le-leb, lt-leb, eq-eqb, ne_eqb}
use Rattle.wire.specs.Answer.{Ans}
use Rattle.wire.specs.Answer.Ans.{done, need, hickup, broken}
use Rattle.wire.specs.Parser.{pick, follow, ret, here, choose, ◌>>=◌}
use Rattle.wire.specs.Number.{number_of, number}
use Rattle.wire.specs.Run.{range, bytes}
use Rattle.wire.proofs.Step as wire
use Rattle.wire.proofs.Step.{step, then_done, then_need, then_hickup, ret_is, here_is, fail_is, choose_true, choose_false}
use Rattle.headertype.specs.Bits.{flag}
use Rattle.headertype.specs.HeaderType.{all_headers}
use Rattle.messageinfo.specs.MessageInfo.{message_type_by, control_of}
use Rattle.messageinfo.specs.declared.ControlType.{ControlType}
use Rattle.headers.specs.Standard.{header_of_lem}
use Rattle.headers.specs.Extended.{extended_of_lem}
use Rattle.headers.proofs.Inverse.{same_value}
use Rattle.filter.specs.declared.Filter.{Filter}
use Rattle.cursor.specs.Cursor.{arguments, cursor}
use Rattle.cursor.specs.Raw.{raw_cursor}
use Rattle.payload.specs.Payload.{is_verbose_of, count_of, is_network_of, is_control_of, network_type_of, list_of, verbose, control, plain, payload}
use Rattle.payload.specs.declared.PayloadContent.{PayloadContent}
use Rattle.parse.specs.Message as parse
use Rattle.parse.specs.Message.{routed, passed, item, body, message, item_of, headers_of_lem}
use Rattle.parse.specs.declared.Headers.{Headers}
use Rattle.parse.specs.declared.ParsedMessage.{ParsedMessage}
use Rattle.outline.specs.There.{extended_place_of, extended_if, extended_at, standard_at, headers_at}
use Rattle.outline.specs.Outline.{outline_of}
use Rattle.outline.specs.declared.Outline.{Outline}
use Rattle.outline.specs.declared.OutlineAns.{OutlineAns}
use Rattle.outline.proofs.There.{number_there, byte_number, bytes_there, headers_end_lem}
use Rattle.step.proofs.Glance.{control_type_lem, big_order}
use Rattle.outline.proofs.Seen.{Seen, seen_of, refused_of, missed_of, seen_routed, refused_routed, missed_routed}
use Rattle.verdict.specs.Drops.{drops_outline}
use Rattle.verdict.proofs.Said.{outline_passed, verdict_said}
use Rattle.numbers.specs.Layout.{message_laid}
use Rattle.numbers.specs.Outlined.{outlined_item, outlined_laid}
use Rattle.exports.specs.Calls.{Outcome, message_shown, need_told, stop_told}
use Rattle.exports.specs.Outlined.{outlined_shown, outlined_payload, dropped_shown}
use Rattle.exports.specs.declared.Answer.{Answer}
use Rattle.exports.proofs.Reading.{numbers, left}
use Rattle.std.specs.Prelude.{Option, Some, None, Result, Ok, Err}
use Rattle.messageinfo.specs.declared.ExtendedHeader.{ExtendedHeader}
use Rattle.wire.specs.Answers.{need_ans, passed_ans, reason_number}
use Rattle.wire.specs.declared.Got.{Got}
use Rattle.wire.specs.declared.Need.{Need}
use Rattle.wire.specs.declared.Stop.{Stop}

-- ---- what is shown, by the payload's answer
module _ (T X : List ℕ) (s : List ℕ) (o : Outline) (a : Answer) (x : Ans PayloadContent) where
  shown_done : (p : PayloadContent) (m : ℕ) → x ≡ done p m → X ≡ outlined_laid T s o p → a ≡ numbers 0 0 m → outlined_shown T s o x ≡ left a X
  unfolding outlined_shown
  shown_done p m q h e = rw (q, h, e)

  shown_need : (m : ℕ) → x ≡ need m → a ≡ numbers 2 m 0 → outlined_shown T s o x ≡ left a T
  unfolding outlined_shown
  shown_need m q e = rw (q, e)

  shown_hickup : (m : ℕ) → x ≡ hickup m → a ≡ numbers 3 m 0 → outlined_shown T s o x ≡ left a T
  unfolding outlined_shown
  shown_hickup m q e = rw (q, e)

  shown_broken : x ≡ broken → a ≡ numbers 4 0 0 → outlined_shown T s o x ≡ left a T
  unfolding outlined_shown
  shown_broken q e = rw (q, e)

-- ---- arguments: r is what passing them answered
module _ (network : Bool) (at n : ℕ) (big : Bool) where
  pub list_trace : network ≡ true → PayloadContent.NetworkTrace (raw_cursor at n big) ≡ list_of network at n big
  unfolding list_of
  list_trace e = rw e

  pub list_verbose : network ≡ false → PayloadContent.Verbose (cursor at n big) ≡ list_of network at n big
  unfolding list_of
  list_verbose e = rw e

module _ (T : List ℕ) (s : List ℕ) (o : Outline) (a : Answer) (at : ℕ) (big : Bool) (n : ℕ) (network : Bool) (r : Result ℕ Stop) (d : passed_ans r ≡ arguments big n s at) where
  pub hand_list_done : (X : List ℕ) (m : ℕ) (p : PayloadContent) → r ≡ Ok m → p ≡ list_of network at n big → X ≡ outlined_laid T s o p → a ≡ numbers 0 0 m
      → outlined_shown T s o (verbose big n network s at) ≡ left a X
  unfolding verbose
  hand_list_done X m p q z h e =
      shown_done T X s o a _ p m (step here _ s at (here_is s at) (step (arguments big n) _ s at (wire.told passed_ans d q) (ret_is _ s m)) ∙ ap (λ (p : PayloadContent). done p m) (sym z)) h e

  pub hand_list_refused : (w : Stop) → r ≡ Err w → a ≡ stop_told w → outlined_shown T s o (verbose big n network s at) ≡ left a T
  unfolding verbose
  hand_list_refused (Stop.Need m) q e = shown_need T T s o a _ m (step here _ s at (here_is s at) (then_need (arguments big n) _ s at (wire.told passed_ans d q))) e
  hand_list_refused (Stop.Hickup m) q e = shown_hickup T T s o a _ (reason_number m) (step here _ s at (here_is s at) (then_hickup (arguments big n) _ s at (wire.told passed_ans d q))) e

-- ---- a payload of n bytes that are there
module _ (T X : List ℕ) (s : List ℕ) (o : Outline) (a : Answer) (at n : ℕ) (there : at + n ≤ length s) where
  pub hand_control_done : (t : ControlType) → 1 ≤ n → t ≡ control_of (get_or s at 0) → X ≡ outlined_laid T s o (PayloadContent.ControlMsg t (range (at + 1) (n - 1))) → a ≡ numbers 0 0 (at + n)
      → outlined_shown T s o (control n s at) ≡ left a X
  unfolding control
  hand_control_done t h z x e =
      let v : at + 1 + (n - 1) ≡ at + n = omega arith in
      let w : control_of (number_of true 1 s at) ≡ t = ap control_of (byte_number s at) ∙ sym z in
      shown_done T X s o a _ (PayloadContent.ControlMsg t (range (at + 1) (n - 1))) (at + n)
      (choose_true _ _ s at (le-leb 1 n h)
      ∙ step (number true 1) _ s at (number_there s at true 1 (omega arith))
      (step (bytes (n - 1)) _ s (at + 1) (bytes_there s (at + 1) (n - 1) (omega arith)) (ret_is _ s _))
      ∙ rw (v, w)) x e

  pub hand_control_short : n < 1 → a ≡ numbers 4 0 0 → outlined_shown T s o (control n s at) ≡ left a T
  unfolding control
  hand_control_short h e = shown_broken T T s o a _ (choose_false _ _ s at (lt-leb 1 n h) ∙ fail_is s at) e

  module _ (big : Bool) where
    pub hand_plain_short : n < 4 → a ≡ numbers 4 0 0 → outlined_shown T s o (plain big n s at) ≡ left a T
    unfolding plain
    hand_plain_short h e = shown_broken T T s o a _ (choose_false _ _ s at (lt-leb 4 n h) ∙ fail_is s at) e

    -- r is what reading the id answered
    module _ (h : 4 ≤ n) (r : Result (Got ℕ) Need) (d : need_ans r ≡ number big 4 s at) where
      pub hand_plain_done : (g : Got ℕ) → r ≡ Ok g → X ≡ outlined_laid T s o (PayloadContent.NonVerbose g.v (range (at + 4) (n - 4))) → a ≡ numbers 0 0 (at + n)
          → outlined_shown T s o (plain big n s at) ≡ left a X
      unfolding plain
      hand_plain_done g q x e =
          let v : at + 4 + (n - 4) ≡ at + n = omega arith in
          let w : number_of big 4 s at ≡ g.v = (same_value (sym (wire.told need_ans d q) ∙ number_there s at big 4 (omega arith))).0 in
          shown_done T X s o a _ (PayloadContent.NonVerbose g.v (range (at + 4) (n - 4))) (at + n)
          (choose_true _ _ s at (le-leb 4 n h)
          ∙ step (number big 4) _ s at (number_there s at big 4 (omega arith))
          (step (bytes (n - 4)) _ s (at + 4) (bytes_there s (at + 4) (n - 4) (omega arith)) (ret_is _ s _))
          ∙ rw (v, w)) x e

      pub hand_plain_need : (m : Need) → r ≡ Err m → a ≡ need_told m → outlined_shown T s o (plain big n s at) ≡ left a T
      unfolding plain
      hand_plain_need m q e = shown_need T T s o a _ m.0 (choose_true _ _ s at (le-leb 4 n h) ∙ then_need (number big 4) _ s at (wire.told need_ans d q)) e

-- ---- by the message info
network_type_lem : (t n : ℕ) → network_type_of (message_type_by t n) ≡ eqb t 2
unfolding network_type_of message_type_by
network_type_lem zero n = refl
network_type_lem (suc zero) n = refl
network_type_lem (suc (suc zero)) n = refl
network_type_lem (suc (suc (suc zero))) n = refl
network_type_lem (suc (suc (suc (suc t)))) n =
    let m = suc (suc (suc (suc t))) in
    rw (ne_eqb m 0 (λ e. omega arith), ne_eqb m 1 (λ e. omega arith), ne_eqb m 2 (λ e. omega arith), ne_eqb m 3 (λ e. omega arith))

module _ (big : Bool) (n : ℕ) (s : List ℕ) (at : ℕ) (behind-ten : 10 ≤ at) where
  payload_by_info : payload big (Some (extended_at s (at - 10))) n s at
      ≡ pick (flag 1 (get_or s (at - 10) 0)) (verbose big (get_or s (at - 9) 0) (eqb (get_or s (at - 10) 0 / 2 % 8) 2) s at)
      (pick (eqb (get_or s (at - 10) 0 / 2 % 8) 3) (control n s at) (plain big n s at))
  unfolding payload choose is_verbose_of is_control_of is_network_of count_of extended_at extended_of_lem
  payload_by_info =
      let e : at - 10 + 1 ≡ at - 9 = omega arith in
      rw (e, byte_number s (at - 10), byte_number s (at - 9), control_type_lem (get_or s (at - 10) 0 / 2 % 8) (get_or s (at - 10) 0 / 16), network_type_lem (get_or s (at - 10) 0 / 2 % 8) (get_or s (at - 10) 0 / 16))

  module _ (T : List ℕ) (o : Outline) (x : Outcome) where
    pub by_verbose : get_or s (at - 10) 0 / 1 % 2 ≡ 1 → outlined_shown T s o (verbose big (get_or s (at - 9) 0) (eqb (get_or s (at - 10) 0 / 2 % 8) 2) s at) ≡ x
        → outlined_shown T s o (payload big (Some (extended_at s (at - 10))) n s at) ≡ x
    by_verbose h e = ap (outlined_shown T s o) (payload_by_info ∙ rw (eq-eqb _ _ h)) ∙ e

    pub by_control : (get_or s (at - 10) 0 / 1 % 2 ≡ 1 → ⊥) → get_or s (at - 10) 0 / 2 % 8 ≡ 3 → outlined_shown T s o (control n s at) ≡ x
        → outlined_shown T s o (payload big (Some (extended_at s (at - 10))) n s at) ≡ x
    by_control h g e = ap (outlined_shown T s o) (payload_by_info ∙ rw (ne_eqb _ _ h, eq-eqb _ _ g)) ∙ e

    pub by_plain : (get_or s (at - 10) 0 / 1 % 2 ≡ 1 → ⊥) → (get_or s (at - 10) 0 / 2 % 8 ≡ 3 → ⊥) → outlined_shown T s o (plain big n s at) ≡ x
        → outlined_shown T s o (payload big (Some (extended_at s (at - 10))) n s at) ≡ x
    by_plain h g e = ap (outlined_shown T s o) (payload_by_info ∙ rw (ne_eqb _ _ h, ne_eqb _ _ g)) ∙ e

-- ---- by the type byte: a is what a call gave for all headers
extended_same : (s : List ℕ) (t i a : ℕ) → a ≡ all_headers t → flag 1 t ≡ true → Some (extended_at s (i + 16 + a - 10)) ≡ extended_if (flag 1 t) s (extended_place_of t (i + 16))
extended_same s t i a e q =
    let z : pick (flag 1 t) (extended_place_of t (i + 16) + 10) (extended_place_of t (i + 16)) ≡ extended_place_of t (i + 16) + 10 = rw q in
    let p : i + 16 + a - 10 ≡ extended_place_of t (i + 16) = omega (arith, z, headers_end_lem t (i + 16), e) in
    rw q (ap (λ (n : ℕ). Some (extended_at s n)) p)

plain_absent : (big : Bool) (n : ℕ) (s : List ℕ) (at : ℕ) → payload big None n s at ≡ plain big n s at
unfolding payload choose is_verbose_of is_control_of
plain_absent big n s at = refl

module _ (T : List ℕ) (s : List ℕ) (o : Outline) (a : ℕ) (is_all : a ≡ all_headers o.header_type) (x : Outcome) where
  abbrev t : ℕ
  t = o.header_type

  payload_extended : o.header_type / 1 % 2 ≡ 1
      → outlined_payload s o ≡ payload (flag 2 t) (Some (extended_at s (o.place + 16 + a - 10))) (o.length - a) s (o.place + 16 + a)
  unfolding outlined_payload
  payload_extended h =
      ap (λ (y : Option ExtendedHeader). payload (flag 2 t) y (o.length - all_headers t) s (o.place + 16 + all_headers t)) (sym (extended_same s t o.place a is_all (eq-eqb _ _ h)))
      ∙ ap (λ (m : ℕ). payload (flag 2 t) (Some (extended_at s (o.place + 16 + a - 10))) (o.length - m) s (o.place + 16 + m)) (sym is_all)

  payload_plain : (o.header_type / 1 % 2 ≡ 1 → ⊥) → outlined_payload s o ≡ plain (flag 2 t) (o.length - a) s (o.place + 16 + a)
  unfolding outlined_payload
  payload_plain h = rw (ne_eqb _ _ h, ← is_all) (plain_absent (flag 2 t) (o.length - a) s (o.place + 16 + a))

  pub outline_extended : o.header_type / 1 % 2 ≡ 1
      → outlined_shown T s o (payload (flag 2 o.header_type) (Some (extended_at s (o.place + 16 + a - 10))) (o.length - a) s (o.place + 16 + a)) ≡ x
      → outlined_shown T s o (outlined_payload s o) ≡ x
  outline_extended h e = ap (outlined_shown T s o) (payload_extended h) ∙ e

  pub outline_plain : (o.header_type / 1 % 2 ≡ 1 → ⊥) → outlined_shown T s o (plain (flag 2 o.header_type) (o.length - a) s (o.place + 16 + a)) ≡ x
      → outlined_shown T s o (outlined_payload s o) ≡ x
  outline_plain h e = ap (outlined_shown T s o) (payload_plain h) ∙ e

  pub outline_filtered : (X : List ℕ) (b : Answer) → b ≡ numbers 0 0 (o.place + 16 + o.length) → X ≡ message_laid T (ParsedMessage.FilteredOut (o.length - a)) → dropped_shown T o ≡ left b X
  unfolding dropped_shown
  outline_filtered X b d g = rw (d, g, is_all)

-- ---- what is shown of an outline is what is shown of the message
module _ (T : List ℕ) (f : List ℕ) (filter : Filter) (s : List ℕ) (o : Outline) (byte : o.header_type < 256) (v : Seen s o) where
  abbrev at : ℕ
  at = o.place + 16 + all_headers o.header_type

  abbrev h : Headers
  h = headers_at f filter s o.place o.header_type o.length

  laid : (p : PayloadContent) → outlined_laid T s o p ≡ message_laid T (item_of h p)
  unfolding outlined_laid outlined_item item_of headers_at headers_of_lem
  laid p =
      let u = v.there in
      rw (le-leb 42 (length s - o.place) (omega (arith, u)))

  shown_item : (x : Ans PayloadContent) → outlined_shown T s o x ≡ message_shown T (parse.Answer.answered (follow x (λ p. ret (item_of h p)) s))
  unfolding outlined_shown message_shown ret
  shown_item (done p b) = rw (laid p)
  shown_item (need n) = refl
  shown_item (hickup r) = refl
  shown_item broken = refl

  item_is : item h s at ≡ follow (outlined_payload s o) (λ p. ret (item_of h p)) s
  unfolding item ◌>>=◌ outlined_payload headers_at headers_of_lem standard_at header_of_lem
  item_is = rw (big_order o.header_type)

  message_is : message f filter true s 0 ≡ body h s at
  unfolding message
  message_is = then_done (routed f filter true) body s 0 (seen_routed f filter s o byte v)

  item_shown : h.filtered ≡ false → outlined_shown T s o (outlined_payload s o) ≡ message_shown T (parse.Answer.answered (message f filter true s 0))
  unfolding body
  item_shown q =
      shown_item (outlined_payload s o)
      ∙ ap (λ (x : Ans ParsedMessage). message_shown T (parse.Answer.answered x)) (sym (message_is ∙ choose_false _ _ s at q ∙ item_is))

  dropped_is : h.filtered ≡ true → body h s at ≡ done (ParsedMessage.FilteredOut (o.length - all_headers o.header_type)) (o.place + 16 + o.length)
  unfolding body passed headers_at headers_of_lem standard_at header_of_lem
  dropped_is q =
      let n = o.length - all_headers o.header_type in
      let p : at + n ≡ o.place + 16 + o.length = omega (arith, v.long) in
      choose_true _ _ s at q ∙ step (bytes n) _ s at (bytes_there s at n (omega (arith, p, v.lies))) (ret_is _ s _) ∙ ap (done (ParsedMessage.FilteredOut n)) p

  dropped_shown_lem : h.filtered ≡ true → dropped_shown T o ≡ message_shown T (parse.Answer.answered (message f filter true s 0))
  unfolding dropped_shown message_shown
  dropped_shown_lem q = ap (λ (x : Ans ParsedMessage). message_shown T (parse.Answer.answered x)) (sym (message_is ∙ dropped_is q))

-- ---- as the code has it: r is what a glance gave, b the filter's verdict
module _ (s : List ℕ) (r : OutlineAns) (e : r ≡ outline_of s) (T X : List ℕ) (a : Answer) (f : List ℕ) (filter : Filter) (stored : Bool) (is-stored : stored ≡ true) where
  pub glance_done : (o : Outline) (b : Bool) → r ≡ OutlineAns.Done o → o.header_type < 256 → b ≡ drops_outline f filter s o → b ≡ false → outlined_shown T s o (outlined_payload s o) ≡ left a X
      → message_shown T (parse.Answer.answered (message f filter stored s 0)) ≡ left a X
  glance_done o b q byte d z g =
      let v = seen_of s r e o q in
      rw is-stored (sym (item_shown T f filter s o byte v (verdict_said f filter s o v b d ∙ z)) ∙ g)

  pub glance_filtered : (o : Outline) (b : Bool) → r ≡ OutlineAns.Done o → o.header_type < 256 → b ≡ drops_outline f filter s o → b ≡ true → dropped_shown T o ≡ left a X
      → message_shown T (parse.Answer.answered (message f filter stored s 0)) ≡ left a X
  glance_filtered o b q byte d z g =
      let v = seen_of s r e o q in
      rw is-stored (sym (dropped_shown_lem T f filter s o byte v (verdict_said f filter s o v b d ∙ z)) ∙ g)

  pub glance_hickup : (i : ℕ) → r ≡ OutlineAns.Hickup i → a ≡ numbers 3 1 0 → message_shown T (parse.Answer.answered (message f filter stored s 0)) ≡ left a T
  unfolding message_shown message
  glance_hickup i q d = rw (is-stored, then_hickup (routed f filter true) body s 0 (refused_routed f filter s i (refused_of s r e i q)), d)

  pub glance_nowhere : (n : ℕ) → r ≡ OutlineAns.Nowhere n → a ≡ numbers 2 n 0 → message_shown T (parse.Answer.answered (message f filter stored s 0)) ≡ left a T
  unfolding message_shown message
  glance_nowhere n q d = rw (is-stored, then_need (routed f filter true) body s 0 (missed_routed f filter s n (missed_of s r e n q)), d)

pub ruleset outlined = (list_trace, list_verbose, hand_list_done, hand_list_refused, hand_control_done, hand_control_short, hand_plain_short, hand_plain_done, hand_plain_need, by_verbose, by_control, by_plain, outline_extended, outline_plain, outline_filtered, outline_passed, glance_done, glance_filtered, glance_hickup, glance_nowhere)
