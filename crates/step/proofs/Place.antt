-- Where the pattern stands of a message whose headers are read, and that all its declared bytes are there. Assumes nothing.
use Prim.Native.Nat.{ℕ, ◌+◌, ◌-◌, ◌≤◌}
use native.Mathlib.Omega.{arith}
use native.Mathlib.Nat.{sub-zero}
use mathlib.Core.Path.{◌≡◌, refl, sym, ap, ◌∙◌}
use mathlib.Core.Bool.{Bool, true, false}
use mathlib.Core.List.{List}
use lib.ListN.{length}
use lib.Dec.{leb, lit<}
use Rattle.wire.specs.Answer.Ans.{done, need}
use Rattle.wire.specs.Lawful.{Waits}
use Rattle.wire.specs.Parser.{pick, follow, ◌>>=◌, here, choose}
use Rattle.wire.specs.Number.{number}
use Rattle.wire.specs.Run.{bytes}
use Rattle.wire.proofs.Step.{here_is, ends}
use Rattle.strings.specs.Text.{identified}
use Rattle.mark.specs.First.{pattern, find}
use Rattle.mark.proofs.Laws.{found_within}
use Rattle.headertype.specs.HeaderType.{overall_length_of}
use Rattle.headers.specs.Standard.{standard}
use Rattle.headers.proofs.Ends.{standard_ends}
use Rattle.headers.proofs.Inverse.{split, of_ret, of_number, of_id, of_bytes, same_value, no_need}
use Rattle.storage.specs.Storage.{from_mark, marked, stored_of, owned, stored, storage}
use Rattle.storage.proofs.Laws.{stored_law}
use Rattle.filter.specs.declared.Filter.{Filter}
use Rattle.parse.specs.Message.{maybe_extended_of, headers_of_lem, finished, headers, routed}
use Rattle.parse.specs.declared.Headers.{Headers}
use Rattle.parse.proofs.Nothing.{headers_of_nothing}
use Rattle.worth.proofs.Ends.{ext_ends}
use Rattle.owned.proofs.Opening.{of_having}
use Rattle.confined.specs.Confined.{confined_body_of, confined_message_of}
use Rattle.step.specs.Step.{skipped_of_lem}
use Rattle.std.specs.Prelude.{Option, Some, None}
use Rattle.storage.specs.declared.Stored.{Stored}

-- behind the pattern: 16 bytes with it
stored_ends : {o : Option Stored} {n : ℕ} (k : ℕ) (s : List ℕ) (at : ℕ) → stored k s at ≡ done o n → (skipped_of_lem o ≡ k) × (n ≡ at + 16)
unfolding stored owned stored_of skipped_of_lem
stored_ends k s at e =
    let r1 = split (bytes 4) _ s at e in
    let r2 = split (number false 4) _ s r1.mid r1.second in
    let r3 = split (number false 4) _ s r2.mid r2.second in
    let r4 = split identified _ s r3.mid r3.second in
    let o = of_ret s r4.mid (stored_of k r2.value r3.value r4.value) r4.second in
    let n1 = (of_bytes 4 s at r1.first).1 in
    let n2 = (of_number false 4 s r1.mid r2.first).1 in
    let n3 = (of_number false 4 s r2.mid r3.first).1 in
    let n4 = (of_id s r3.mid r4.first).1 in
    (ap skipped_of_lem o.0, omega (arith, o.1, n1, n2, n3, n4))

-- the storage header: behind the first pattern, or none and the rest is empty
data Led (s : List ℕ) (o : Option Stored) (n : ℕ) : Type 0 where
  led : (i : ℕ) → find pattern s 0 ≡ Some i → skipped_of_lem o ≡ i → n ≡ i + 16 → n ≤ length s → Led s o n
  none : o ≡ None → n ≡ length s → Led s o n

storage_led : {o : Option Stored} {n : ℕ} (s : List ℕ) → storage s 0 ≡ done o n → Led s o n
unfolding storage marked
storage_led {o} {n} s e = by (leb 16 (length s - 0)) (find pattern s 0) refl e
  where
    by : (b : Bool) (x : Option ℕ) → find pattern s 0 ≡ x → pick b (from_mark stored None s 0 x) (need 0) ≡ done o n → Led s o n
    by true (Some i) q g =
        let h : stored i s i ≡ done o n = rw sub-zero at g in
        let r = stored_ends i s i h in
        let w = found_within pattern s 0 i (lit< tt) q in
        led i q r.0 r.1 (ends {p = stored i} s i (stored_law i) (omega (arith, w)) h).1
    by true None q g = none (same_value g).0 (same_value g).1
    by false x q g = no_need g

-- the headers: the storage header handed on, and as many bytes as declared behind it
headers_hold : {h : Headers} {n : ℕ} (f : List ℕ) (filter : Filter) (o : Option Stored) (s : List ℕ) (at : ℕ) → headers f filter o s at ≡ done h n
    → (h.storage_header ≡ o) × (overall_length_of h.header ≤ length s - at) × (n + h.header.payload_length ≡ at + overall_length_of h.header)
unfolding headers finished headers_of_lem overall_length_of
headers_hold {h} {n} f filter o s at e =
    let r1 = split here _ s at e in
    let r2 = split standard _ s r1.mid r1.second in
    let r3 = split (maybe_extended_of r2.value.has_extended_header) _ s r2.mid r2.second in
    let w = of_having r1.value (overall_length_of r2.value) (headers_of_lem f filter o r2.value r3.value) s r3.mid r3.second in
    let p : r1.value ≡ at = (same_value (sym (here_is s at) ∙ r1.first)).0 in
    let l : overall_length_of h.header ≡ overall_length_of r2.value = ap (λ (x : Headers). overall_length_of x.header) w.0 in
    let y : h.header.payload_length ≡ r2.value.payload_length = ap (λ (x : Headers). x.header.payload_length) w.0 in
    let q : r1.mid ≡ at = (same_value (sym (here_is s at) ∙ r1.first)).1 in
    let a = standard_ends r2.value r2.mid s r1.mid r2.first in
    let b = ext_ends r2.value.has_extended_header r3.value r3.mid s r2.mid r3.first in
    (ap (λ (x : Headers). x.storage_header) w.0, omega (arith, w.2, l, p), omega (arith, w.1, l, y, q, a, b))

-- a message whose headers are read, and end at n: its pattern, the bytes skipped, that it lies within the bytes, and where its payload ends
pub record Placed (s : List ℕ) (h : Headers) (n : ℕ) : Type 0 where
  pub place : ℕ
  pub found : find pattern s 0 ≡ Some place
  pub skips : skipped_of_lem h.storage_header ≡ place
  pub lies : place + (16 + overall_length_of h.header) ≤ length s
  pub end : n + h.header.payload_length ≡ place + (16 + overall_length_of h.header)

module _ (f : List ℕ) (filter : Filter) (s : List ℕ) where
  place_of : {h : Headers} {o : Option Stored} {m n : ℕ} → Led s o m → headers f filter o s m ≡ done h n → Placed s h n
  place_of {h} {o} {m} (led i q k e l) g =
      let w = headers_hold f filter o s m g in
      record { place = i; found = q; skips = ap skipped_of_lem w.0 ∙ k; lies = omega (arith, w.1, e, l); end = omega (arith, w.2, e) }
  place_of {h} {o} {m} {n} (none a e) g =
      let z : headers f filter None s (length s) ≡ done h n = rw (← a, ← e) g in
      no_need (sym (headers_of_nothing f filter None s) ∙ z)

  pub placed : {h : Headers} {n : ℕ} → routed f filter true s 0 ≡ done h n → Placed s h n
  unfolding routed choose
  placed e =
      let r = split storage _ s 0 e in
      place_of (storage_led s r.first) r.second

  -- no pattern: the rule waits
  behind_none : (b : Bool) → Waits (follow (follow (pick b (done None (length s)) (need 0)) (λ o. headers f filter o) s) confined_body_of s)
  behind_none true = rw (headers_of_nothing f filter None s) tt
  behind_none false = tt

  pub no_pattern : find pattern s 0 ≡ None → Waits (confined_message_of f filter true s 0)
  unfolding confined_message_of routed choose storage marked ◌>>=◌
  no_pattern e = rw e (behind_none (leb 16 (length s - 0)))
