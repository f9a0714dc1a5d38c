-- Which bytes are read, which are refused and which are waited for, in the protocol's words. Each set is exact. (Of the bytes only HTYP is asked to be one: a number
-- below 256.)
use Prim.Native.Nat.{ℕ, ◌+◌, ◌-◌, ◌≤◌, ◌<◌}
use native.Mathlib.Omega.{arith}
use mathlib.Core.Logic.{◌↔◌}
use mathlib.Core.Path.{◌≡◌, refl, sym, ap, ◌∙◌, subst}
use mathlib.Core.Bool.{Bool, true, false}
use mathlib.Core.List.{List}
use lib.ListN.{length}
use lib.Dec.{leb}
use borrow.Author.Tests.{leb-true, leb-false}
use Rattle.wire.specs.Answer.{numbered}
use Rattle.wire.specs.Answer.Ans.{done, need, hickup, broken}
use Rattle.wire.specs.Parser.{pick}
use Rattle.wire.specs.Lawful.{Waits}
use Rattle.wire.proofs.Laws.{is_two, of_two}
use Rattle.headertype.specs.HeaderType.{all_headers}
use Rattle.headertype.specs.declared.StandardHeader.{StandardHeader}
use Rattle.messageinfo.specs.declared.ExtendedHeader.{ExtendedHeader}
use Rattle.headers.specs.Standard.{standard}
use Rattle.headers.specs.Extended.{extended}
use Rattle.protocol.specs.Fields.{UEH, headers}
use Rattle.protocol.proofs.Lengths.{headers_length}
use Rattle.agreement.specs.Agree.{htyp_of, len_of, StandardAgrees}
use Rattle.agreement.specs.Read.{standard_end, headers_end, StandardThere, HeadersThere, LenCounts, StandardRead, ExtendedRead}
use Rattle.agreement.proofs.Headers.{standard_agrees, extended_agrees}
use Rattle.agreement.proofs.Asks.{need_waits, waits_need, Told, told, ExtendedTold, extended_told}

-- ---- the three answers to a standard header, each with what stands in the bytes
module _ (s : List ℕ) (at : ℕ) (byte : htyp_of s at < 256) where
  data Outcome : Type 0 where
    read : StandardThere s at → LenCounts s at → (h : StandardHeader) (n : ℕ) → standard s at ≡ done h n → Outcome
    refused : StandardThere s at → len_of s at < headers (htyp_of s at) → standard s at ≡ hickup 1 → Outcome
    waiting : length s < standard_end s at → (n : ℕ) → standard s at ≡ need n → Outcome

  outcome : Outcome
  outcome = by (leb (standard_end s at) (length s)) refl (leb (all_headers (htyp_of s at)) (len_of s at)) refl (told s at)
    where
      by : (t : Bool) → leb (standard_end s at) (length s) ≡ t → (b : Bool) → leb (all_headers (htyp_of s at)) (len_of s at) ≡ b → Told s at → Outcome
      by true e true f o =
          let l : standard_end s at ≤ length s = leb-true _ _ e in
          let m : all_headers (htyp_of s at) ≤ len_of s at = leb-true _ _ f in
          Outcome.read l (omega (arith, headers_length (htyp_of s at) byte)) o.header o.next
          (o.asks.there (omega arith) ∙ ap (λ (b : Bool). pick b (done o.header o.next) (hickup 1)) f)
      by true e false f o =
          let l : standard_end s at ≤ length s = leb-true _ _ e in
          let m : len_of s at < all_headers (htyp_of s at) = leb-false _ _ f in
          Outcome.refused l (omega (arith, headers_length (htyp_of s at) byte))
          (o.asks.there (omega arith) ∙ ap (λ (b : Bool). pick b (done o.header o.next) (hickup 1)) f)
      by false e b f o =
          let l : length s < standard_end s at = leb-false _ _ e in
          let w = waits_need (standard s at) (o.asks.short (omega arith)) in
          Outcome.waiting l w.0 w.1

  read_of : Outcome → StandardThere s at → LenCounts s at → StandardRead s at
  read_of (Outcome.read l m h n e) t c =
      let a = standard_agrees s at byte h n e in
      record {
        header = h;
        answer = e ∙ ap (done h) a.ends;
        agrees = subst (StandardAgrees s at h) a.ends a;
      }
  read_of (Outcome.refused l m e) t c = absurd (omega arith)
  read_of (Outcome.waiting l n e) t c = absurd (omega arith)

  of_read : Outcome → (h : StandardHeader) (n : ℕ) → standard s at ≡ done h n → StandardThere s at × LenCounts s at
  of_read (Outcome.read l m g k e) h n q = (l, m)
  of_read (Outcome.refused l m e) h n q = let z : ◌≡◌ {A = ℕ} 0 1 = cc in absurd (omega arith)
  of_read (Outcome.waiting l k e) h n q = let z : ◌≡◌ {A = ℕ} 0 1 = cc in absurd (omega arith)

  of_refused : Outcome → (r : ℕ) → standard s at ≡ hickup r → (r ≡ 1) × StandardThere s at × (len_of s at < headers (htyp_of s at))
  of_refused (Outcome.read l m h n e) r q = let z : ◌≡◌ {A = ℕ} 0 1 = cc in absurd (omega arith)
  of_refused (Outcome.refused l m e) r q = (cc, l, m)
  of_refused (Outcome.waiting l n e) r q = let z : ◌≡◌ {A = ℕ} 0 1 = cc in absurd (omega arith)

  refused_of : Outcome → StandardThere s at → len_of s at < headers (htyp_of s at) → standard s at ≡ hickup 1
  refused_of (Outcome.read l m h n e) t c = absurd (omega arith)
  refused_of (Outcome.refused l m e) t c = e
  refused_of (Outcome.waiting l n e) t c = absurd (omega arith)

  of_waiting : Outcome → Waits (standard s at) → length s < standard_end s at
  of_waiting (Outcome.read l m h n e) w = absurd (subst Waits e w)
  of_waiting (Outcome.refused l m e) w = absurd (subst Waits e w)
  of_waiting (Outcome.waiting l n e) w = l

  waiting_of : Outcome → length s < standard_end s at → Waits (standard s at)
  waiting_of (Outcome.read l m h n e) t = absurd (omega arith)
  waiting_of (Outcome.refused l m e) t = absurd (omega arith)
  waiting_of (Outcome.waiting l n e) t = need_waits e

  not_broken : Outcome → standard s at ≡ broken → ⊥
  not_broken (Outcome.read l m h n e) q = let z : ◌≡◌ {A = ℕ} 0 1 = cc in omega arith
  not_broken (Outcome.refused l m e) q = let z : ◌≡◌ {A = ℕ} 0 1 = cc in omega arith
  not_broken (Outcome.waiting l n e) q = let z : ◌≡◌ {A = ℕ} 0 1 = cc in omega arith

  -- ---- the standard header
  -- it is read, as the protocol has it, just where each field that HTYP says is there stands in the bytes, and LEN counts all headers at least
  pub standard_read : (StandardThere s at → LenCounts s at → StandardRead s at) × ((h : StandardHeader) (n : ℕ) → standard s at ≡ done h n → StandardThere s at × LenCounts s at)
  standard_read = (read_of outcome, of_read outcome)

  -- it is refused, always for reason 1, just where they stand there and LEN counts less
  pub standard_refused : (r : ℕ) → (standard s at ≡ hickup r) ↔ ((r ≡ 1) × StandardThere s at × (len_of s at < headers (htyp_of s at)))
  standard_refused r = (of_refused outcome r, λ q. refused_of outcome q.1 q.2 ∙ ap hickup (sym q.0))

  -- it is waited for (number 2) just where one of them doesn't
  pub standard_waits : ((numbered (standard s at)).number ≡ 2) ↔ (length s < standard_end s at)
  standard_waits = (λ e. of_waiting outcome (of_two (standard s at) e), λ l. is_two (standard s at) (waiting_of outcome l))

  pub standard_never_broken : standard s at ≡ broken → ⊥
  standard_never_broken = not_broken outcome

-- ---- the extended header
module _ (s : List ℕ) (at : ℕ) where
  -- its ten bytes stand there, or they are waited for
  data Later : Type 0 where
    read : 10 ≤ length s - at → (x : ExtendedHeader) → extended s at ≡ done x (at + 10) → Later
    waiting : length s - at < 10 → (n : ℕ) → extended s at ≡ need n → Later

  later : Later
  later = by (leb 10 (length s - at)) refl (extended_told s at)
    where
      by : (t : Bool) → leb 10 (length s - at) ≡ t → ExtendedTold s at → Later
      by true e o = let l : 10 ≤ length s - at = leb-true _ _ e in Later.read l o.header (o.asks.there l)
      by false e o =
          let l : length s - at < 10 = leb-false _ _ e in
          let w = waits_need (extended s at) (o.asks.short l) in
          Later.waiting l w.0 w.1

  unrefused : Later → (r : ℕ) → extended s at ≡ hickup r → ⊥
  unrefused (Later.read l x e) r q = let z : ◌≡◌ {A = ℕ} 0 1 = cc in omega arith
  unrefused (Later.waiting l n e) r q = let z : ◌≡◌ {A = ℕ} 0 1 = cc in omega arith

  unbroken : Later → extended s at ≡ broken → ⊥
  unbroken (Later.read l x e) q = let z : ◌≡◌ {A = ℕ} 0 1 = cc in omega arith
  unbroken (Later.waiting l n e) q = let z : ◌≡◌ {A = ℕ} 0 1 = cc in omega arith

  -- it is never refused, wherever it stands
  pub extended_never_refused : (r : ℕ) → extended s at ≡ hickup r → ⊥
  extended_never_refused = unrefused later

  pub extended_never_broken : extended s at ≡ broken → ⊥
  extended_never_broken = unbroken later

-- where HTYP says that there is one and the standard header ends
module _ (s : List ℕ) (at : ℕ) (byte : htyp_of s at < 256) (flagged : UEH (htyp_of s at) ≡ true) where
  ten : headers_end s at ≡ standard_end s at + 10
  ten =
      let one : ◌≡◌ {A = ℕ} (pick (UEH (htyp_of s at)) 1 0) 1 = rw flagged in
      let four : ◌≡◌ {A = ℕ} (pick (UEH (htyp_of s at)) 4 0) 4 = rw flagged in
      omega arith

  extended_of_law : Later s (standard_end s at) → HeadersThere s at → ExtendedRead s at
  extended_of_law (Later.read l x e) t =
      let f : extended s (standard_end s at) ≡ done x (headers_end s at) = e ∙ ap (done x) (sym ten) in
      record { header = x; answer = f; agrees = extended_agrees s at byte flagged x (headers_end s at) f }
  extended_of_law (Later.waiting l n e) t = absurd (omega (arith, ten))

  of_extended : Later s (standard_end s at) → (x : ExtendedHeader) (n : ℕ) → extended s (standard_end s at) ≡ done x n → HeadersThere s at
  of_extended (Later.read l y e) x n q = omega (arith, ten)
  of_extended (Later.waiting l m e) x n q = let z : ◌≡◌ {A = ℕ} 0 1 = cc in absurd (omega arith)

  of_later : Later s (standard_end s at) → Waits (extended s (standard_end s at)) → length s < headers_end s at
  of_later (Later.read l x e) w = absurd (subst Waits e w)
  of_later (Later.waiting l n e) w = omega (arith, ten)

  later_of : Later s (standard_end s at) → length s < headers_end s at → Waits (extended s (standard_end s at))
  later_of (Later.read l x e) t = absurd (omega (arith, ten))
  later_of (Later.waiting l n e) t = need_waits e

  -- it is read, as the protocol has it, just where all headers stand in the bytes, and waited for everywhere else
  pub extended_read : (HeadersThere s at → ExtendedRead s at) × ((x : ExtendedHeader) (n : ℕ) → extended s (standard_end s at) ≡ done x n → HeadersThere s at)
  extended_read = (extended_of_law (later s (standard_end s at)), of_extended (later s (standard_end s at)))

  pub extended_waits : ((numbered (extended s (standard_end s at))).number ≡ 2) ↔ (length s < headers_end s at)
  extended_waits = (
    λ e. of_later (later s (standard_end s at)) (of_two (extended s (standard_end s at)) e),
    λ l. is_two (extended s (standard_end s at)) (later_of (later s (standard_end s at)) l),
  )
