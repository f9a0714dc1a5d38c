-- What is filtered out has an extended header: a message without one is never filtered out, whatever the filter says. Assumes nothing.
use Prim.Native.Nat.{ℕ, ◌-◌}
use native.Mathlib.Omega.{arith}
use mathlib.Core.Path.{◌≡◌, refl, sym, ap, ◌∙◌}
use mathlib.Core.Bool.{Bool, true, false}
use mathlib.Core.List.{List}
use lib.ListN.{length}
use lib.Dec.{leb}
use Rattle.wire.specs.Answer.Ans.{done, need}
use Rattle.wire.specs.Parser.{pick, choose, lacking}
use Rattle.headertype.specs.HeaderType.{overall_length_of}
use Rattle.messageinfo.specs.declared.ExtendedHeader.{ExtendedHeader}
use Rattle.headers.proofs.Inverse.{split, same_value, no_need, of_ret}
use Rattle.filter.specs.Filter.{filter_of}
use Rattle.filter.specs.declared.Filter.{Filter}
use Rattle.filter.specs.declared.FilterError.{FilterError}
use Rattle.std.specs.Prelude.{Result, Ok, Err, Some}
use Rattle.filtering.specs.FilteredOut.{filtered_out_of}
use Rattle.filtering.proofs.Plain.{dropped_has_one}
use Rattle.payload.specs.Payload.{payload}
use Rattle.parse.specs.Message.{Answer, having_from, seen, headers_of_lem, routed, is_big_of, item_of, item, passed, body, message, judged, message_of}
use Rattle.parse.specs.declared.Headers.{Headers}
use Rattle.parse.specs.declared.ParsedMessage.{ParsedMessage}
use Rattle.worth.specs.Opening.{Opening, opening}
use Rattle.worth.proofs.Opening.{check, routed_is}

-- an item isn't filtered out
item_not : (h : Headers) (s : List ℕ) (at n b : ℕ) → item h s at ≡ done (ParsedMessage.FilteredOut n) b → ⊥
unfolding item item_of
item_not h s at n b e =
    let r = split (payload (is_big_of h.header.endianness) h.extended_header h.header.payload_length) _ s at e in
    let q = (of_ret s r.mid (item_of h r.value) r.second).0 in
    let z : ◌≡◌ {A = ℕ} 0 1 = cc in
    omega arith

-- so the filter dropped it
body_dropped : (h : Headers) (s : List ℕ) (at n b : ℕ) → body h s at ≡ done (ParsedMessage.FilteredOut n) b → h.filtered ≡ true
unfolding body choose
body_dropped h s at n b e = by h.filtered e
  where
    by : (t : Bool) → pick t (passed h.header.payload_length s at) (item h s at) ≡ done (ParsedMessage.FilteredOut n) b → t ≡ true
    by true q = refl
    by false q = absurd (item_not h s at n b q)

module _ (f : List ℕ) (filter : Filter) (s : List ℕ) where
  -- by what steps 2 to 4 had read
  check_says : (o : Opening) (h : Headers) (at n : ℕ) → check f filter o s at ≡ done h n → h.filtered ≡ filtered_out_of f filter s o.extended o.header.ecu_id
  unfolding check having_from seen headers_of_lem
  check_says o h at n e = by (leb (overall_length_of o.header) (length s - o.start)) e
    where
      by : (t : Bool) → pick t (done (headers_of_lem f filter o.stored o.header o.extended s) at) (need (lacking (overall_length_of o.header) s o.start)) ≡ done h n
          → h.filtered ≡ filtered_out_of f filter s o.extended o.header.ecu_id
      by true q = ap (λ (x : Headers). x.filtered) (same_value q).0
      by false q = no_need q

-- the headers that were read, and their extended header
pub record Extended (t : Bool) (s : List ℕ) : Type 0 where
  pub opening_read : Opening
  pub behind : ℕ
  pub read : opening t s 0 ≡ done opening_read behind
  pub header : ExtendedHeader
  pub there : opening_read.extended ≡ Some header

module _ (f : List ℕ) (t : Bool) (s : List ℕ) (n b : ℕ) where
  message_extended : (filter : Filter) → message f filter t s 0 ≡ done (ParsedMessage.FilteredOut n) b → Extended t s
  unfolding message
  message_extended filter e =
      let r = split (routed f filter t) body s 0 e in
      let o = split (opening t) (check f filter) s 0 (sym (routed_is f filter t s 0) ∙ r.first) in
      let dropped = body_dropped r.value s r.mid n b r.second in
      let h = dropped_has_one f filter s o.value.header.ecu_id o.value.extended (sym (check_says f filter s o.value r.value o.mid r.mid o.second) ∙ dropped) in
      record { opening_read = o.value; behind = o.mid; read = o.first; header = h.0; there = h.1 }

  pub never_filtered : message_of f t s ≡ Answer.answered (done (ParsedMessage.FilteredOut n) b) → Extended t s
  unfolding message_of judged
  never_filtered e = by (filter_of f) e
    where
      by : (v : Result Filter FilterError) → judged (λ filter. message f filter t s 0) v ≡ Answer.answered (done (ParsedMessage.FilteredOut n) b) → Extended t s
      by (Ok filter) q = message_extended filter (let z : message f filter t s 0 ≡ done (ParsedMessage.FilteredOut n) b = cc in z)
      by (Err FilterError.Retired) q = let z : ◌≡◌ {A = ℕ} 0 1 = cc in absurd (omega arith)
      by (Err FilterError.Bad) q = let z : ◌≡◌ {A = ℕ} 0 1 = cc in absurd (omega arith)
