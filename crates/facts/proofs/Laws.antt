-- The message rule keeps the laws, with and without storage headers, under every filter; and document 01's two facts of it.
use Prim.Native.Nat.{ℕ, ◌+◌, ◌≤◌}
use mathlib.Core.Path.{◌≡◌}
use mathlib.Core.Bool.{Bool, true, false}
use mathlib.Core.List.{List, ◌++◌}
use lib.ListN.{length}
use Rattle.wire.specs.Answer.Ans.{done}
use Rattle.wire.specs.Parser.{ret, here, choose}
use Rattle.wire.specs.Lawful.{Lawful, Stable, Honest}
use Rattle.wire.specs.declared.Text.{Text}
use Rattle.wire.proofs.Laws.{then_law, choose_law, here_law, stable, honest}
use Rattle.wire.proofs.Rules.{laws}
use Rattle.headertype.specs.HeaderType.{overall_length_of}
use Rattle.headertype.specs.declared.StandardHeader.{StandardHeader}
use Rattle.headers.specs.Standard.{standard}
use Rattle.headers.specs.Extended.{extended}
use Rattle.headers.proofs.Laws.{standard_law, extended_law}
use Rattle.headers.proofs.Inverse.{split, of_ret, ecu_inside, ids_inside}
use Rattle.storage.proofs.Laws.{storage_law}
use Rattle.filter.specs.declared.Filter.{Filter}
use Rattle.filtering.proofs.Stable.{IdsIn, filtered_same}
use Rattle.payload.proofs.Laws.{payload_law}
use Rattle.parse.specs.Message.{seen, maybe_extended_of, headers_of_lem, finished, headers, routed, passed, item, body, message}
use Rattle.parse.specs.declared.Headers.{Headers}
use Rattle.parse.proofs.Nothing.{headers_of_nothing}
use Rattle.facts.proofs.At.{LawfulAt, lawful_at, at_lawful, then_at, seen_at, from_at}
use Rattle.std.specs.Prelude.{Option, Some, None}
use Rattle.storage.specs.declared.Stored.{Stored}
use Rattle.messageinfo.specs.declared.ExtendedHeader.{ExtendedHeader}

pub maybe_extended_law : (t : Bool) → Lawful (maybe_extended_of t)
unfolding maybe_extended_of
maybe_extended_law t = search (laws, extended_law) depth 20

pub maybe_ids : (b : Bool) (e : Option ExtendedHeader) (n : ℕ) (s : List ℕ) (at : ℕ) → at ≤ length s → maybe_extended_of b s at ≡ done e n → IdsIn s e
unfolding maybe_extended_of choose
maybe_ids true e n s at h q =
    let r = split extended (λ x. ret (Some x)) s at q in
    let o = of_ret s r.mid (Some r.value) r.second in
    rw o.0 (ids_inside r.value r.mid s at h r.first)
maybe_ids false e n s at h q = rw (of_ret s at None q).0 tt

module _ (f : List ℕ) (filter : Filter) (stored : Option Stored) where
  headers_same : (h : StandardHeader) (e : Option ExtendedHeader) (s t : List ℕ) → IdsIn s e → ((r : Text) → h.ecu_id ≡ Some r → r.place.start + r.place.len ≤ length s)
      → headers_of_lem f filter stored h e (s ++ t) ≡ headers_of_lem f filter stored h e s
  unfolding headers_of_lem
  headers_same h e s t i r = rw (filtered_same f s t filter e h.ecu_id i r)

  finished_at : (start : ℕ) (h : StandardHeader) (s : List ℕ) (at : ℕ) → at ≤ length s → ((r : Text) → h.ecu_id ≡ Some r → r.place.start + r.place.len ≤ length s)
      → LawfulAt (finished f filter stored start h) s at
  unfolding finished
  finished_at start h s at l ecu =
      then_at (maybe_extended_of h.has_extended_header) _ s at (lawful_at _ (maybe_extended_law h.has_extended_header) s at l)
      (λ e b q k. from_at start (overall_length_of h) (seen (headers_of_lem f filter stored h e)) s b
      (seen_at (headers_of_lem f filter stored h e) s b k (λ t. headers_same h e s t (maybe_ids h.has_extended_header e b s at l q) ecu)))

  pub headers_law : Lawful (headers f filter stored)
  unfolding headers
  headers_law =
      at_lawful _ (λ s at l.
      then_at here _ s at (lawful_at here here_law s at l) (λ start b q k.
      then_at standard _ s b (lawful_at standard standard_law s b k) (λ h c r m.
      finished_at start h s c m (ecu_inside h c s b k r))))

pub routed_law : (f : List ℕ) (filter : Filter) (t : Bool) → Lawful (routed f filter t)
unfolding routed
routed_law f filter t =
    choose_law t _ _
    (storage_law (λ o. headers f filter o) (λ o. headers_law f filter o) (headers_of_nothing f filter None))
    (headers_law f filter None)

passed_law : (n : ℕ) → Lawful (passed n)
unfolding passed
passed_law n = search laws depth 20

item_law : (h : Headers) → Lawful (item h)
unfolding item
item_law h = search (laws, payload_law) depth 20

pub body_law : (h : Headers) → Lawful (body h)
unfolding body
body_law h = search (laws, passed_law, item_law) depth 20

pub message_law : (f : List ℕ) (filter : Filter) (t : Bool) → Lawful (message f filter t)
unfolding message
message_law f filter t = then_law (routed f filter t) body (routed_law f filter t) body_law

-- ---- the two facts: an answer other than Incomplete is the same with more bytes added; after Incomplete with need n, fewer than n more bytes leave it Incomplete
pub message_stable : (f : List ℕ) (filter : Filter) (t : Bool) → Stable (message f filter t)
message_stable f filter t = stable (message f filter t) (message_law f filter t)

pub message_honest : (f : List ℕ) (filter : Filter) (t : Bool) → Honest (message f filter t)
message_honest f filter t = honest (message f filter t) (message_law f filter t)
