-- The lemmas of what the walk hears at a glance, for `search`, and that it is what the confined reading says. Assumes nothing.
use Prim.Native.Nat.{ℕ, zero, suc, ◌+◌, ◌-◌, ◌/◌, ◌%◌, ◌≤◌, ◌<◌}
use native.Mathlib.Omega.{arith}
use mathlib.Core.Path.{◌≡◌, refl, sym, ap, ◌∙◌}
use mathlib.Core.Bool.{Bool, true, false}
use mathlib.Core.List.{List}
use lib.ListN.{length, get_or, take}
use lib.Seq.{length-take-le}
use lib.Dec.{leb, eqb}
use borrow.Author.Tests.{leb-true, le-leb, lt-leb, eq-eqb, ne_eqb}
use Rattle.wire.specs.Answer.{Ans}
use Rattle.wire.specs.Answer.Ans.{done, need, hickup, broken}
use Rattle.wire.specs.Parser.{pick, follow, ret, here, fail, choose, ◌>>=◌}
use Rattle.wire.specs.Number.{number_of, number}
use Rattle.wire.specs.Run.{bytes}
use Rattle.wire.proofs.Step.{told, step, then_done, then_need, then_hickup, ret_is}
use Rattle.headertype.specs.Bits.{flag}
use Rattle.headertype.specs.HeaderType.{all_headers}
use Rattle.headertype.specs.declared.Endianness.{Endianness}
use Rattle.messageinfo.specs.MessageInfo.{message_type_by, control_of}
use Rattle.headers.specs.Standard.{endian_of, header_of_lem}
use Rattle.headers.specs.Extended.{extended_of_lem}
use Rattle.filter.specs.declared.Filter.{Filter}
use Rattle.cursor.specs.Cursor.{arguments}
use Rattle.payload.specs.Payload.{is_verbose_of, count_of, is_network_of, is_control_of, control_type_of, list_of, verbose, control, plain, payload}
use Rattle.payload.specs.declared.PayloadContent.{PayloadContent}
use Rattle.parse.specs.Message.{routed, body, passed, item, item_of, is_big_of, headers_of_lem}
use Rattle.parse.specs.declared.Headers.{Headers}
use Rattle.confined.specs.Confined.{shut, overrun, inside_of_lem, inside, confined_body_of, confined_message_of}
use Rattle.confined.proofs.Laws.{cut}
use Rattle.outline.specs.There.{extended_place_of, extended_if, extended_at, standard_at, headers_at}
use Rattle.outline.specs.Outline.{outline_of}
use Rattle.outline.specs.declared.Outline.{Outline}
use Rattle.outline.specs.declared.OutlineAns.{OutlineAns}
use Rattle.outline.proofs.There.{number_there, headers_end_lem, declared_again, byte_number, bytes_there}
use Rattle.outline.proofs.Seen.{Seen, seen_of, refused_of, missed_of, seen_routed, refused_routed, missed_routed}
use Rattle.verdict.specs.Drops.{drops_outline}
use Rattle.verdict.proofs.Said.{outline_passed, verdict_said}
use Rattle.walk.specs.Walk.{Step, Wait, Take}
use Rattle.step.specs.Step.{item_kind, filtered_kind, hickup_kind, unrecoverable_kind, overrun_kind, heard, asked}
use Rattle.step.specs.Glance.{heard_list, heard_run, heard_extended, heard_outline}
use Rattle.std.specs.Prelude.{Option, Some, None, Result, Ok, Err}
use Rattle.messageinfo.specs.declared.ExtendedHeader.{ExtendedHeader}
use Rattle.wire.specs.Answers.{passed_ans}
use Rattle.wire.specs.declared.Stop.{Stop}
use Rattle.wire.specs.declared.Reason.{Reason}

-- ---- the code's cases
module _ (k l : ℕ) (big : Bool) (n : ℕ) (s : List ℕ) (at : ℕ) (a : Result ℕ Stop) (d : passed_ans a ≡ arguments big n s at) where
  pub list_done : (m : ℕ) → a ≡ Ok m → Take k l 0 ≡ heard_list k l (arguments big n s at)
  list_done m q = ap (heard_list k l) (sym (told passed_ans d q))

  pub list_need : (e : Stop) (m : ℕ) → a ≡ Err e → e ≡ Stop.Need m → Take k l 4 ≡ heard_list k l (arguments big n s at)
  list_need e m q z = ap (heard_list k l) (sym (told passed_ans d (q ∙ ap Err z)))

  pub list_hickup : (e : Stop) (m : Reason) → a ≡ Err e → e ≡ Stop.Hickup m → Take k 4 2 ≡ heard_list k l (arguments big n s at)
  list_hickup e m q z = ap (heard_list k l) (sym (told passed_ans d (q ∙ ap Err z)))

module _ (least n k l : ℕ) where
  pub run_there : least ≤ n → Take k l 0 ≡ heard_run least n k l
  unfolding heard_run
  run_there h = rw (le-leb least n h)

  pub run_short : n < least → Take k 4 3 ≡ heard_run least n k l
  unfolding heard_run
  run_short h = rw (lt-leb least n h)

module _ (big : Bool) (n k l : ℕ) (s : List ℕ) (at : ℕ) (x : Step ℕ ℕ) where
  pub info_verbose : get_or s (at - 10) 0 / 1 % 2 ≡ 1 → x ≡ heard_list k l (arguments big (get_or s (at - 9) 0) (take (at + n) s) at) → x ≡ heard_extended big n k l s at
  unfolding heard_extended
  info_verbose h e = rw (eq-eqb _ _ h) e

  pub info_control : (get_or s (at - 10) 0 / 1 % 2 ≡ 1 → ⊥) → get_or s (at - 10) 0 / 2 % 8 ≡ 3 → x ≡ heard_run 1 n k l → x ≡ heard_extended big n k l s at
  unfolding heard_extended
  info_control h g e = rw (ne_eqb _ _ h, eq-eqb _ _ g) e

  pub info_plain : (get_or s (at - 10) 0 / 1 % 2 ≡ 1 → ⊥) → (get_or s (at - 10) 0 / 2 % 8 ≡ 3 → ⊥) → x ≡ heard_run 4 n k l → x ≡ heard_extended big n k l s at
  unfolding heard_extended
  info_plain h g e = rw (ne_eqb _ _ h, ne_eqb _ _ g) e

-- a is what a call gave for all headers
module _ (s : List ℕ) (o : Outline) (a : ℕ) (is_all : a ≡ all_headers o.header_type) (x : Step ℕ ℕ) where
  pub outline_extended : o.header_type / 1 % 2 ≡ 1 → x ≡ heard_extended (flag 2 o.header_type) (o.length - a) o.place (16 + o.length) s (o.place + 16 + a) → x ≡ heard_outline s o
  unfolding heard_outline
  outline_extended h e = rw (eq-eqb _ _ h, ← is_all) e

  pub outline_plain : (o.header_type / 1 % 2 ≡ 1 → ⊥) → x ≡ heard_run 4 (o.length - a) o.place (16 + o.length) → x ≡ heard_outline s o
  unfolding heard_outline
  outline_plain h e = rw (ne_eqb _ _ h, ← is_all) e

-- ---- what is heard at a glance is what the rule says of the payload
pub control_type_lem : (t n : ℕ) → control_type_of (message_type_by t n) ≡ eqb t 3
unfolding control_type_of message_type_by
control_type_lem zero n = refl
control_type_lem (suc zero) n = refl
control_type_lem (suc (suc zero)) n = refl
control_type_lem (suc (suc (suc zero))) n = refl
control_type_lem (suc (suc (suc (suc t)))) n =
    let m = suc (suc (suc (suc t))) in
    rw (ne_eqb m 0 (λ e. omega arith), ne_eqb m 1 (λ e. omega arith), ne_eqb m 2 (λ e. omega arith), ne_eqb m 3 (λ e. omega arith))

pub big_order : (t : ℕ) → is_big_of (endian_of t) ≡ flag 2 t
unfolding endian_of is_big_of
big_order t = by (flag 2 t)
  where
    by : (b : Bool) → is_big_of (pick b Endianness.Big Endianness.Little) ≡ b
    by true = refl
    by false = refl

-- a payload as it is heard, of the bytes up to the declared end
abbrev heard_payload : ℕ → ℕ → Ans PayloadContent → Step ℕ ℕ
heard_payload k l (done p n) = Take k l item_kind
heard_payload k l (hickup r) = Take k 4 hickup_kind
heard_payload k l broken = Take k 4 unrecoverable_kind
heard_payload k l (need n) = Take k l overrun_kind

-- that is what is heard of the message; and where the filter drops it
module _ (k l : ℕ) (h : Headers) (s : List ℕ) (at : ℕ) (there : at + h.header.payload_length ≤ length s) where
  abbrev paid : ℕ
  paid = h.header.payload_length

  abbrev part : List ℕ
  part = take (at + paid) s

  as_item : (x : Ans PayloadContent) → heard_payload k l x ≡ heard k l (shut (overrun paid) (at + paid) (follow (follow x (λ p. ret (item_of h p)) part) (λ m. ret (inside_of_lem m)) part))
  unfolding ret item_of inside_of_lem
  as_item (done p b) = refl
  as_item (need b) = refl
  as_item (hickup r) = refl
  as_item broken = refl

  item_heard : h.filtered ≡ false → heard_payload k l (payload (is_big_of h.header.endianness) h.extended_header h.header.payload_length (take (at + h.header.payload_length) s) at) ≡ heard k l (confined_body_of h s at)
  unfolding confined_body_of inside body choose item ◌>>=◌ item_of
  item_heard q = rw (cut paid (overrun paid) (inside h) s at there, q) (as_item (payload (is_big_of h.header.endianness) h.extended_header paid part at))

  dropped_heard : h.filtered ≡ true → Take k l filtered_kind ≡ heard k l (confined_body_of h s at)
  unfolding confined_body_of inside body choose passed ◌>>=◌ ret inside_of_lem
  dropped_heard q =
      let w : length part ≡ at + paid = length-take-le (at + paid) s there in
      rw (cut paid (overrun paid) (inside h) s at there, q, bytes_there part at paid (omega arith))

module _ (k l : ℕ) (s : List ℕ) (at : ℕ) where
  verbose_heard : (big : Bool) (n : ℕ) (network : Bool) → heard_payload k l (verbose big n network s at) ≡ heard_list k l (arguments big n s at)
  unfolding verbose ◌>>=◌ here ret
  verbose_heard big n network = by (arguments big n s at)
    where
      by : (x : Ans Unit) → heard_payload k l (follow x (λ u s b. done (list_of network at n big) b) s) ≡ heard_list k l x
      by (done u b) = refl
      by (need m) = refl
      by (hickup r) = refl
      by broken = refl

  module _ (n : ℕ) (there : at + n ≤ length s) where
    control_heard : heard_payload k l (control n s at) ≡ heard_run 1 n k l
    unfolding control heard_run choose fail
    control_heard = by (leb 1 n) refl
      where
        by : (b : Bool) → leb 1 n ≡ b → heard_payload k l (pick b ((number true 1 >>= (λ id. bytes (n - 1) >>= (λ rest. ret (PayloadContent.ControlMsg (control_of id) rest)))) s at) broken) ≡ pick b (Take k l 0) (Take k 4 3)
        by true e =
            let h = leb-true 1 n e in
            ap (heard_payload k l)
            (step (number true 1) _ s at (number_there s at true 1 (omega (arith, h)))
            (step (bytes (n - 1)) _ s (at + 1) (bytes_there s (at + 1) (n - 1) (omega (arith, h))) (ret_is _ s _)))
        by false e = refl

    plain_heard : (big : Bool) → heard_payload k l (plain big n s at) ≡ heard_run 4 n k l
    unfolding plain heard_run choose fail
    plain_heard big = by (leb 4 n) refl
      where
        by : (b : Bool) → leb 4 n ≡ b → heard_payload k l (pick b ((number big 4 >>= (λ id. bytes (n - 4) >>= (λ rest. ret (PayloadContent.NonVerbose id rest)))) s at) broken) ≡ pick b (Take k l 0) (Take k 4 3)
        by true e =
            let h = leb-true 4 n e in
            ap (heard_payload k l)
            (step (number big 4) _ s at (number_there s at big 4 (omega (arith, h)))
            (step (bytes (n - 4)) _ s (at + 4) (bytes_there s (at + 4) (n - 4) (omega (arith, h))) (ret_is _ s _)))
        by false e = refl

    kinds_heard : (big v c network : Bool) (m : ℕ) → heard_payload k l (pick v (verbose big m network s at) (pick c (control n s at) (plain big n s at)))
        ≡ pick v (heard_list k l (arguments big m s at)) (pick c (heard_run 1 n k l) (heard_run 4 n k l))
    kinds_heard big true c network m = verbose_heard big m network
    kinds_heard big false true network m = control_heard
    kinds_heard big false false network m = plain_heard big

    absent_heard : (big : Bool) → heard_payload k l (payload big None n s at) ≡ heard_run 4 n k l
    unfolding payload choose is_verbose_of is_control_of
    absent_heard big = plain_heard big

-- the header's bytes stand before the payload, whose bytes end at the declared end
extended_heard : (k l : ℕ) (s : List ℕ) (at n : ℕ) → at + n ≤ length s → (big : Bool) (p : ℕ) → p + 10 ≡ at
    → heard_payload k l (payload big (Some (extended_at s p)) n (take (at + n) s) at) ≡ heard_extended big n k l s at
unfolding payload choose is_verbose_of is_control_of count_of extended_at extended_of_lem heard_extended
extended_heard k l s at n there big p e =
    let a : at - 10 ≡ p = omega arith in
    let b : at - 9 ≡ p + 1 = omega arith in
    let w : length (take (at + n) s) ≡ at + n = length-take-le (at + n) s there in
    rw (a, b, ← byte_number s p, ← byte_number s (p + 1), ← control_type_lem (number_of true 1 s p / 2 % 8) (number_of true 1 s p / 16))
    (kinds_heard k l (take (at + n) s) at n (omega arith) big (flag 1 (number_of true 1 s p)) (control_type_of (message_type_by (number_of true 1 s p / 2 % 8) (number_of true 1 s p / 16))) (is_network_of (Some (extended_at s p))) (number_of true 1 s (p + 1)))

-- the whole
module _ (f : List ℕ) (filter : Filter) (s : List ℕ) (o : Outline) (byte : o.header_type < 256) (v : Seen s o) where
  abbrev t : ℕ
  t = o.header_type

  abbrev at : ℕ
  at = o.place + 16 + all_headers t

  abbrev h : Headers
  h = headers_at f filter s o.place t o.length

  abbrev n : ℕ
  n = o.length - all_headers t

  abbrev u : List ℕ
  u = take (at + n) s

  lies : at + n ≤ length s
  lies = omega (arith, v.long, v.lies)

  abbrev extended_outlined : Option ExtendedHeader
  extended_outlined = extended_if (flag 1 t) s (extended_place_of t (o.place + 16))

  outline_asked : heard o.place (16 + o.length) (confined_body_of h s at) ≡ asked f filter s
  unfolding asked confined_message_of headers_at headers_of_lem
  outline_asked =
      let r = seen_routed f filter s o byte v in
      rw (v.found, r, then_done (routed f filter true) confined_body_of s 0 r, declared_again t o.length s (o.place + 16) byte v.long)

  outlined_heard : heard_payload o.place (16 + o.length) (payload (flag 2 t) extended_outlined n u at) ≡ heard_outline s o
  unfolding heard_outline
  outlined_heard = by (flag 1 t) refl
    where
      by : (b : Bool) → flag 1 t ≡ b
          → heard_payload o.place (16 + o.length) (payload (flag 2 t) (extended_if b s (extended_place_of t (o.place + 16))) n u at)
          ≡ pick b (heard_extended (flag 2 t) n o.place (16 + o.length) s at) (heard_run 4 n o.place (16 + o.length))
      by true e =
          let z : pick (flag 1 t) (extended_place_of t (o.place + 16) + 10) (extended_place_of t (o.place + 16)) ≡ extended_place_of t (o.place + 16) + 10 = rw e in
          extended_heard o.place (16 + o.length) s at n lies (flag 2 t) (extended_place_of t (o.place + 16)) (omega (arith, z, headers_end_lem t (o.place + 16)))
      by false e =
          let w : length u ≡ at + n = length-take-le (at + n) s lies in
          absent_heard o.place (16 + o.length) u at n (omega arith) (flag 2 t)

  item_at : h.filtered ≡ false → heard_outline s o ≡ asked f filter s
  unfolding headers_at headers_of_lem standard_at header_of_lem
  item_at q =
      sym outlined_heard
      ∙ ap (λ (b : Bool). heard_payload o.place (16 + o.length) (payload b extended_outlined n u at)) (sym (big_order t))
      ∙ item_heard o.place (16 + o.length) h s at lies q ∙ outline_asked

  dropped_at_lem : h.filtered ≡ true → Take o.place (16 + o.length) 1 ≡ asked f filter s
  unfolding headers_at headers_of_lem standard_at header_of_lem
  dropped_at_lem q = dropped_heard o.place (16 + o.length) h s at lies q ∙ outline_asked

-- ---- as the code has it: r is what a glance gave, b the filter's verdict
module _ (f : List ℕ) (filter : Filter) (s : List ℕ) (r : OutlineAns) (e : r ≡ outline_of s) where
  pub asked_outline : (o : Outline) (b : Bool) (x : Step ℕ ℕ) → r ≡ OutlineAns.Done o → o.header_type < 256 → b ≡ drops_outline f filter s o → b ≡ false → x ≡ heard_outline s o → x ≡ asked f filter s
  asked_outline o b x q byte d z g = let v = seen_of s r e o q in g ∙ item_at f filter s o byte v (verdict_said f filter s o v b d ∙ z)

  pub asked_filtered : (o : Outline) (b : Bool) → r ≡ OutlineAns.Done o → o.header_type < 256 → b ≡ drops_outline f filter s o → b ≡ true → Take o.place (16 + o.length) 1 ≡ asked f filter s
  asked_filtered o b q byte d z = let v = seen_of s r e o q in dropped_at_lem f filter s o byte v (verdict_said f filter s o v b d ∙ z)

  pub asked_refused : (i : ℕ) → r ≡ OutlineAns.Hickup i → Take i 4 2 ≡ asked f filter s
  unfolding asked confined_message_of
  asked_refused i q =
      let v = refused_of s r e i q in
      rw (v.found, then_hickup (routed f filter true) confined_body_of s 0 (refused_routed f filter s i v))

  pub asked_nowhere : (n : ℕ) → r ≡ OutlineAns.Nowhere n → Wait n ≡ asked f filter s
  unfolding asked confined_message_of
  asked_nowhere n q = rw (then_need (routed f filter true) confined_body_of s 0 (missed_routed f filter s n (missed_of s r e n q)))

pub ruleset glancing = (list_done, list_need, list_hickup, run_there, run_short, info_verbose, info_control, info_plain, outline_extended, outline_plain, outline_passed, asked_outline, asked_filtered, asked_refused, asked_nowhere)
