-- What holds of `skip_storage_header` and `dlt_consume_msg`, and what does not.
use Prim.Native.Nat.{ℕ, suc, ◌+◌, ◌-◌, ◌≤◌, ◌<◌, zero-le}
use native.Mathlib.Omega.{arith}
use mathlib.Core.Path.{◌≡◌, refl, sym, ap, ◌∙◌}
use mathlib.Core.Bool.{Bool, true, false}
use mathlib.Core.List.{List, [], ◌∷◌, ◌++◌}
use lib.ListN.{length, get_or, length-append, get_or-append}
use lib.Dec.{leb, eqb}
use borrow.Author.Tests.{le-leb, leb-true}
use Rattle.wire.specs.Answer.{Ans, Parser, numbered}
use Rattle.wire.specs.Answer.Ans.{done, need, hickup, broken}
use Rattle.wire.specs.Parser.{pick, follow, ◌>>=◌, asking, having, fixed, lacking}
use Rattle.wire.specs.Lawful.{Lawful, Kept, Within, Waits, Stable, Honest}
use Rattle.wire.specs.Run.{bytes, range}
use Rattle.wire.proofs.Laws.{ret_law, here_law, is_two}
use Rattle.wire.proofs.Runs.{bytes_law}
use Rattle.headertype.specs.HeaderType.{overall_length_of, all_headers}
use Rattle.headertype.specs.declared.StandardHeader.{StandardHeader}
use Rattle.headers.proofs.Laws.{standard_law}
use Rattle.storage.specs.Settled.{Stays, Ends, Settled}
use Rattle.storage.specs.Consume.{tagged, skip, from, whole, consume}
use Rattle.std.specs.Prelude.{Option, None}

-- ---- the laws of such rules
lawful_settled : {A : Type 0} (p : Parser A) → Lawful p → Settled p
lawful_settled {A} p l =
    record {
      stays = λ s t at h. stay (p s at) (p (s ++ t) at) (length t) (l.kept s t at h);
      ends = λ s at h. end (p s at) at (length s) (l.within s at h);
    }
  where
    stay : (x y : Ans A) (m : ℕ) → Kept x m y → Stays x y
    stay (done a b) y m k = k
    stay (need n) y m k = tt
    stay (hickup r) y m k = k
    stay broken y m k = k

    end : (x : Ans A) (at len : ℕ) → Within at len x → Ends len x
    end (done a b) at len w = w.1
    end (need n) at len w = tt
    end (hickup r) at len w = tt
    end broken at len w = tt

module _ {A B : Type 0} (p : Parser A) (k : A → Parser B) (hp : Settled p) (hk : (a : A) → Settled (k a)) where
  follow_stays : (s t : List ℕ) (x : Ans A) → Ends (length s) x → (y : Ans A) → Stays x y → Stays (follow x k s) (follow y k (s ++ t))
  follow_stays s t (done a b) w y e = rw e ((hk a).stays s t b w)
  follow_stays s t (need n) w y e = tt
  follow_stays s t (hickup r) w y e = rw e
  follow_stays s t broken w y e = rw e

  follow_ends : (s : List ℕ) (x : Ans A) → Ends (length s) x → Ends (length s) (follow x k s)
  follow_ends s (done a b) w = (hk a).ends s b w
  follow_ends s (need n) w = tt
  follow_ends s (hickup r) w = tt
  follow_ends s broken w = tt

  then_settled : Settled (p >>= k)
  unfolding ◌>>=◌
  then_settled = record {
    stays = λ s t at h. follow_stays s t (p s at) (hp.ends s at h) (p (s ++ t) at) (hp.stays s t at h);
    ends = λ s at h. follow_ends s (p s at) (hp.ends s at h);
  }

-- ---- a tag
tagged_stays : (q s t : List ℕ) (at : ℕ) → at ≤ length s → Stays (tagged q s at) (tagged q (s ++ t) at)
unfolding tagged
tagged_stays [] s t at h = refl
tagged_stays (b ∷ q) s t at h = by (tagged_stays q s t (suc at)) (leb 1 (length s - at)) refl
  where
    same : at < length s → get_or (s ++ t) at 0 ≡ get_or s at 0
    same l = get_or-append s t 0 at l

    one : (c : Bool) → (Stays (tagged q s (suc at)) (tagged q (s ++ t) (suc at))) → Stays (pick c (tagged q s (suc at)) (hickup 4)) (pick c (tagged q (s ++ t) (suc at)) (hickup 4))
    one true g = g
    one false g = refl

    by : (suc at ≤ length s → Stays (tagged q s (suc at)) (tagged q (s ++ t) (suc at))) → (c : Bool) → leb 1 (length s - at) ≡ c
        → Stays (pick c (pick (eqb (get_or s at 0) b) (tagged q s (suc at)) (hickup 4)) (need (suc (length q)))) (tagged (b ∷ q) (s ++ t) at)
    by go true e =
        let l : 1 ≤ length s - at = leb-true _ _ e in
        let n : length (s ++ t) ≡ length s + length t = length-append s t in
        rw (le-leb 1 (length (s ++ t) - at) (omega arith), same (omega arith)) (one (eqb (get_or s at 0) b) (go (omega arith)))
    by go false e = tt

tagged_ends : (q s : List ℕ) (at : ℕ) → at ≤ length s → Ends (length s) (tagged q s at)
unfolding tagged
tagged_ends [] s at h = h
tagged_ends (b ∷ q) s at h = by (tagged_ends q s (suc at)) (leb 1 (length s - at)) refl (eqb (get_or s at 0) b)
  where
    by : (suc at ≤ length s → Ends (length s) (tagged q s (suc at))) → (c : Bool) → leb 1 (length s - at) ≡ c → (d : Bool) → Ends (length s) (pick c (pick d (tagged q s (suc at)) (hickup 4)) (need (suc (length q))))
    by go true e true = let l : 1 ≤ length s - at = leb-true _ _ e in go (omega arith)
    by go true e false = tt
    by go false e d = tt

tagged_settled : (q : List ℕ) → Settled (tagged q)
tagged_settled q = record { stays = tagged_stays q; ends = tagged_ends q }

-- ---- bytes from an earlier position
from_settled : (start n : ℕ) → 0 < n → Settled (from start (bytes n))
unfolding from bytes fixed having asking
from_settled start n p =
    record { stays = λ s t at h. stay s t (leb n (length s - start)) refl; ends = λ s at h. end s (leb n (length s - start)) refl }
  where
    stay : (s t : List ℕ) (b : Bool) → leb n (length s - start) ≡ b
        → Stays (pick b (done (range start n) (start + n)) (need (lacking n s start))) (pick (leb n (length (s ++ t) - start)) (done (range start n) (start + n)) (need (lacking n (s ++ t) start)))
    stay s t true e =
        let f : n ≤ length s - start = leb-true _ _ e in
        let l : length (s ++ t) ≡ length s + length t = length-append s t in
        rw (le-leb n (length (s ++ t) - start) (omega arith))
    stay s t false e = tt

    end : (s : List ℕ) (b : Bool) → leb n (length s - start) ≡ b → Ends (length s) (pick b (done (range start n) (start + n)) (need (lacking n s start)))
    end s true e = let f : n ≤ length s - start = leb-true _ _ e in omega arith
    end s false e = tt

skip_settled : Settled skip
unfolding skip
skip_settled =
    then_settled _ _ (tagged_settled _) (λ a.
    then_settled _ _ (tagged_settled _) (λ b.
    then_settled _ _ (lawful_settled _ (bytes_law 12)) (λ c.
    lawful_settled _ (ret_law 16))))

long_enough : (h : StandardHeader) → 0 < overall_length_of h
unfolding overall_length_of all_headers
long_enough h = omega arith

whole_settled : Settled whole
unfolding whole
whole_settled =
    then_settled _ _ (lawful_settled _ here_law) (λ start.
    then_settled _ _ (lawful_settled _ standard_law) (λ h.
    then_settled _ _ (from_settled start (overall_length_of h) (long_enough h)) (λ m.
    lawful_settled _ (ret_law _))))

message_settled : Settled (skip >>= (λ lead. whole))
message_settled = then_settled skip (λ lead. whole) skip_settled (λ lead. whole_settled)

-- ---- what holds: of a message that has begun, an answer other than Incomplete stays with more bytes
stays_same : {A : Type 0} (x y : Ans A) → Stays x y → (Waits x → ⊥) → y ≡ x
stays_same (done a b) y e w = e
stays_same (need n) y e w = absurd (w tt)
stays_same (hickup r) y e w = e
stays_same broken y e w = e

begun : (s : List ℕ) → 0 < length s → consume s 0 ≡ (skip >>= (λ lead. whole)) s 0
unfolding consume
begun s h = rw (le-leb 1 (length s - 0) (omega arith))

pub consume_stable : (s t : List ℕ) → 0 < length s → ((numbered (consume s 0)).number ≡ 2 → ⊥) → consume (s ++ t) 0 ≡ consume s 0
consume_stable s t h w =
    let l : length (s ++ t) ≡ length s + length t = length-append s t in
    let e : consume s 0 ≡ (skip >>= (λ lead. whole)) s 0 = begun s h in
    begun (s ++ t) (omega arith)
    ∙ stays_same _ _ (message_settled.stays s t 0 zero-le) (λ v. w (is_two (consume s 0) (rw e v)))
    ∙ sym e

-- and a value ends within the bytes
pub consume_within : (s : List ℕ) → 0 < length s → Ends (length s) (consume s 0)
consume_within s h = rw (begun s h) (message_settled.ends s 0 zero-le)

-- `skip_storage_header` alone
pub skip_stable : Stable skip
skip_stable s t w = stays_same _ _ (skip_settled.stays s t 0 zero-le) (λ v. w (is_two (skip s 0) v))

-- ---- what does not: `44` needs 2, and one byte more, `44 58`, is Hickup 4
pub one_letter : consume (0x44 ∷ []) 0 ≡ need 2
unfolding consume ◌>>=◌ skip tagged
one_letter = refl

pub other_letter : consume (0x44 ∷ 0x58 ∷ []) 0 ≡ hickup 4
unfolding consume ◌>>=◌ skip tagged
other_letter = refl

pub consume_not_honest : Honest consume → ⊥
consume_not_honest h =
    let three : ◌≡◌ {A = ℕ} 3 2 = sym (ap (λ (x : Ans (Option ℕ)). (numbered x).number) other_letter) ∙ h (0x44 ∷ []) (0x58 ∷ []) 2 (ap numbered one_letter) (omega arith) in
    omega (arith, three)

-- and empty input is done, though a byte more is not
pub consume_of_nothing : consume [] 0 ≡ done None 0
unfolding consume
consume_of_nothing = refl
