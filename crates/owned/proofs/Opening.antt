-- Steps 2 to 4 are thrifty, the search for the pattern and all; and the headers of a message hang on its own bytes alone.
--     marked-both   a mark, what it leads, and a rule behind that
--     opening-own   headers that end within the first bytes are read from them alone
--     routed-room   where steps 2 to 6 give headers, all declared bytes are there
--     routed-own    and they give the same ones over these bytes alone
-- Assumes nothing.
use Prim.Native.Nat.{ℕ, ◌+◌, ◌-◌, ◌≤◌, ◌<◌, zero-le}
use native.Mathlib.Omega.{arith}
use mathlib.Core.Path.{◌≡◌, refl, sym, ap, ◌∙◌}
use mathlib.Core.Bool.{Bool, true, false}
use mathlib.Core.List.{List, ◌++◌}
use lib.ListN.{length}
use lib.Dec.{leb, lit<}
use borrow.Author.Tests.{leb-true, leb-false}
use Rattle.wire.specs.Answer.{Parser}
use Rattle.wire.specs.Answer.Ans.{done, need}
use Rattle.wire.specs.Parser.{pick, follow, lacking, ◌>>=◌}
use Rattle.wire.specs.Number.{number}
use Rattle.wire.specs.Run.{bytes}
use Rattle.wire.proofs.Step.{ends, then_done}
use Rattle.strings.specs.Text.{identified}
use Rattle.mark.specs.First.{pattern, find}
use Rattle.mark.proofs.Laws.{found_from, found_within, find_stable, none_skips}
use Rattle.headertype.specs.HeaderType.{overall_length_of}
use Rattle.headers.proofs.Inverse.{split, same_value, no_need, of_ret, of_number, of_bytes, of_id}
use Rattle.storage.specs.Storage.{from_mark, marked, stored_of, owned, stored, storage}
use Rattle.storage.proofs.Laws.{marked_law}
use Rattle.filter.specs.declared.Filter.{Filter}
use Rattle.filtering.proofs.Stable.{filtered_same}
use Rattle.parse.specs.Message.{having_from, seen, headers_of_lem, routed}
use Rattle.parse.specs.declared.Headers.{Headers}
use Rattle.worth.specs.Opening.{Opening, opening_behind, opening}
use Rattle.worth.proofs.Opening.{behind_nothing, check, routed_is, opening_law}
use Rattle.worth.proofs.Worth.{stands}
use Rattle.worth.proofs.Ends.{parts, opening_ends, ecu_in, ids_in_lem}
use Rattle.owned.specs.Thrifty.{Thrifty, Both}
use Rattle.owned.proofs.Thrifty.{then_both, choose_both, own_of}
use Rattle.owned.proofs.Rules.{behind_both, stored_both}
use Rattle.std.specs.Prelude.{Option, Some, None}
use Rattle.storage.specs.declared.Stored.{Stored}

same_place : {i j : ℕ} → Some i ≡ Some j → i ≡ j
same_place e = cc

-- ---- a mark that leads at least n bytes, and a rule behind them
module _ {A B : Type 0} (mark : List ℕ) (some : 0 < length mark) (n : ℕ) (short : length mark ≤ n) (lead : ℕ → Parser A) (none : A) (k : A → Parser B)
    (hl : (skipped : ℕ) → Both (lead skipped)) (hk : (a : A) → Both (k a)) (none-needs : (s : List ℕ) → k none s (length s) ≡ need 1)
    (long : (skipped : ℕ) (s : List ℕ) (at : ℕ) (a : A) (m : ℕ) → lead skipped s at ≡ done a m → at + n ≤ m) where
  led_both : (skipped : ℕ) → Both (lead skipped >>= k)
  led_both skipped = then_both (lead skipped) k (hl skipped) hk

  -- a value stands behind a mark
  record Led (s : List ℕ) (at : ℕ) (c : B) (b : ℕ) : Type 0 where
    place : ℕ
    found : find mark s at ≡ Some place
    read : (lead (place - at) >>= k) s place ≡ done c b

  led : (s : List ℕ) (at : ℕ) {c : B} {b : ℕ} → (marked mark n lead none >>= k) s at ≡ done c b → Led s at c b
  unfolding marked ◌>>=◌
  led s at {c} {b} e = by (leb n (length s - at)) (find mark s at) refl e
    where
      by : (t : Bool) (x : Option ℕ) → find mark s at ≡ x → follow (pick t (from_mark lead none s at x) (need 0)) k s ≡ done c b → Led s at c b
      by true (Some i) q g = record { place = i; found = q; read = g }
      by true None q g = no_need (sym (none-needs s) ∙ g)
      by false x q g = no_need g

  -- and takes its n bytes
  past : (s : List ℕ) (at : ℕ) {c : B} {b : ℕ} (l : Led s at c b) → l.place + n ≤ b
  past s at l =
      let w = found_within mark s at l.place some l.found in
      let r = split (lead (l.place - at)) k s l.place l.read in
      let m = ends {p = lead (l.place - at)} s l.place (hl (l.place - at)).lawful (omega (arith, w)) r.first in
      omega (arith, long (l.place - at) s l.place r.value r.mid r.first, ends {p = k r.value} s r.mid (hk r.value).lawful m.1 r.second)

  marked_thrifty : Thrifty (marked mark n lead none >>= k)
  unfolding marked ◌>>=◌
  marked_thrifty s t at c b m h e g = by (leb n (length s - at)) refl (find mark s at) refl e
    where
      l : Led (s ++ t) at c b
      l = led (s ++ t) at g

      by : (x : Bool) → leb n (length s - at) ≡ x → (o : Option ℕ) → find mark s at ≡ o → follow (pick x (from_mark lead none s at o) (need 0)) k s ≡ need m → length s < b
      by false q o z f = omega (arith, leb-false n (length s - at) q, past (s ++ t) at l, found_from mark (s ++ t) at l.place some l.found)
      by true q (Some i) z f =
          let same : l.place ≡ i = same_place (sym l.found ∙ find_stable mark s t at i some z) in
          (led_both (i - at)).thrifty s t i c b m (omega (arith, found_within mark s at i some z)) f (rw same at l.read)
      by true q None z f =
          let skips = none_skips mark s t at some h z in
          let from = found_from mark (s ++ t) _ l.place some (sym skips ∙ l.found) in
          omega (arith, from, past (s ++ t) at l)

  pub marked_both : Both (marked mark n lead none >>= k)
  marked_both = record { lawful = marked_law mark some n lead none k (λ i. (hl i).lawful) (λ a. (hk a).lawful) none-needs; thrifty = marked_thrifty }

-- ---- the storage header has 16 bytes
stored_long : (skipped : ℕ) (s : List ℕ) (at : ℕ) (o : Option Stored) (n : ℕ) → stored skipped s at ≡ done o n → at + 16 ≤ n
unfolding stored owned
stored_long skipped s at o n e =
    let r1 = split (bytes 4) _ s at e in
    let r2 = split (number false 4) _ s r1.mid r1.second in
    let r3 = split (number false 4) _ s r2.mid r2.second in
    let r4 = split identified _ s r3.mid r3.second in
    let o = of_ret s r4.mid (stored_of skipped r2.value r3.value r4.value) r4.second in
    omega (arith, o.1, (of_bytes 4 s at r1.first).1, (of_number false 4 s r1.mid r2.first).1, (of_number false 4 s r2.mid r3.first).1, (of_id s r3.mid r4.first).1)

pub opening_both : (t : Bool) → Both (opening t)
unfolding opening storage
opening_both t =
    choose_both t _ _
    (marked_both pattern (lit< tt) 16 (omega arith) stored None opening_behind stored_both behind_both behind_nothing stored_long)
    (behind_both None)

pub opening_own : (t : Bool) (s u : List ℕ) (l : Opening) (n : ℕ) → opening t (s ++ u) 0 ≡ done l n → n ≤ length s → opening t s 0 ≡ done l n
opening_own t s u l n e h = own_of (opening t) (opening_both t) s u 0 l n zero-le e h

-- ---- steps 5 and 6 behind it
module _ {A : Type 0} (start m : ℕ) (g : List ℕ → A) (s : List ℕ) (at : ℕ) where
  pub of_having : {a : A} {n : ℕ} → having_from start m (seen g) s at ≡ done a n → (a ≡ g s) × (n ≡ at) × (m ≤ length s - start)
  unfolding having_from seen
  of_having {a} {n} e = by (leb m (length s - start)) refl e
    where
      by : (b : Bool) → leb m (length s - start) ≡ b → pick b (done (g s) at) (need (lacking m s start)) ≡ done a n → (a ≡ g s) × (n ≡ at) × (m ≤ length s - start)
      by true q z = ((same_value z).0, (same_value z).1, leb-true m (length s - start) q)
      by false q z = no_need z

module _ (f : List ℕ) (filter : Filter) (t : Bool) where
  -- what steps 2 to 6 gave: the opening, whose declared bytes are there, and the headers of it
  record Routed (s : List ℕ) (h : Headers) (n : ℕ) : Type 0 where
    read : Opening
    opened : opening t s 0 ≡ done read n
    heads : h ≡ headers_of_lem f filter read.stored read.header read.extended s
    there : n + h.header.payload_length ≡ read.start + overall_length_of read.header
    whole : overall_length_of read.header ≤ length s - read.start

  routed_from : (s : List ℕ) (h : Headers) (n : ℕ) → routed f filter t s 0 ≡ done h n → Routed s h n
  unfolding check headers_of_lem overall_length_of
  routed_from s h n e =
      let r = split (opening t) (check f filter) s 0 (sym (routed_is f filter t s 0) ∙ e) in
      let l = r.value in
      let k = of_having l.start (overall_length_of l.header) (headers_of_lem f filter l.stored l.header l.extended) s r.mid r.second in
      let o : opening t s 0 ≡ done l n = r.first ∙ ap (done l) (sym k.1) in
      let p : h.header.payload_length ≡ l.header.payload_length = ap (λ (x : Headers). x.header.payload_length) k.0 in
      record { read = l; opened = o; heads = k.0; there = omega (arith, opening_ends (parts t l n s 0 o), p); whole = k.2 }

  -- all declared bytes are there
  pub routed_room : (s : List ℕ) (h : Headers) (n : ℕ) → routed f filter t s 0 ≡ done h n → n + h.header.payload_length ≤ length s
  routed_room s h n e =
      let r = routed_from s h n e in
      omega (arith, r.there, r.whole, opening_ends (parts t r.read n s 0 r.opened), (ends {p = opening t} s 0 (opening_law t) zero-le r.opened).1)

  pub routed_own : (s u : List ℕ) (h : Headers) (n : ℕ) → routed f filter t (s ++ u) 0 ≡ done h n → n + h.header.payload_length ≤ length s → routed f filter t s 0 ≡ done h n
  unfolding check headers_of_lem
  routed_own s u h n e room =
      let r = routed_from (s ++ u) h n e in
      let l = r.read in
      let o : opening t s 0 ≡ done l n = opening_own t s u l n r.opened (omega arith) in
      let p = parts t l n s 0 o in
      let begins : l.start ≤ length s = omega (arith, opening_ends p, room) in
      let v = filtered_same f s u filter l.extended l.header.ecu_id (ids_in_lem p begins) (ecu_in p begins) in
      let same : headers_of_lem f filter l.stored l.header l.extended s ≡ h = sym (r.heads ∙ rw v) in
      routed_is f filter t s 0
      ∙ then_done (opening t) (check f filter) s 0 o
      ∙ stands l.start (overall_length_of l.header) s n (headers_of_lem f filter l.stored l.header l.extended) (omega (arith, r.there, room))
      ∙ ap (λ (x : Headers). done x n) same
