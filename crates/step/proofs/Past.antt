-- Once a standard header is accepted, its declared bytes decide, and the walk waits for none past them. Assumes nothing.
use Prim.Native.Nat.{ℕ, ◌+◌, ◌-◌, ◌*◌, ◌≤◌, ◌<◌}
use native.Mathlib.Omega.{arith}
use mathlib.Core.Path.{◌≡◌, refl, sym, ap, ◌∙◌, subst}
use mathlib.Core.Bool.{Bool, true, false}
use mathlib.Core.List.{List, ◌++◌}
use lib.ListN.{length, replicate, length-append, length-replicate}
use lib.Dec.{leb, ltb, lit<}
use borrow.Author.Tests.{leb-true, leb-false}
use Rattle.wire.specs.Answer.{Ans, Parser}
use Rattle.wire.specs.Answer.Ans.{done, need, hickup, broken}
use Rattle.wire.specs.Parser.{pick, follow, ret, here, choose, lacking, asking, having, fixed, ◌>>=◌}
use Rattle.wire.specs.Number.{number, number_of}
use Rattle.wire.specs.Lawful.{Kept, Waits}
use Rattle.wire.proofs.Step.{step, then_done, ret_is, here_is}
use Rattle.strings.specs.Text.{before0, text_need, text, ended_text, identified}
use Rattle.mark.specs.First.{pattern, find}
use Rattle.mark.proofs.Laws.{find_stable}
use Rattle.headertype.specs.Bits.{one_if_of}
use Rattle.headertype.specs.HeaderType.{overall_length_of}
use Rattle.headertype.specs.declared.StandardHeader.{StandardHeader}
use Rattle.headers.specs.Standard.{standard}
use Rattle.headers.specs.Extended.{extended, named}
use Rattle.headers.proofs.Ends.{standard_ends}
use Rattle.headers.proofs.Inverse.{no_need}
use Rattle.headers.proofs.Laws.{standard_law}
use Rattle.storage.specs.Storage.{storage}
use Rattle.filter.specs.declared.Filter.{Filter}
use Rattle.parse.specs.Message.{maybe_extended_of}
use Rattle.parse.proofs.Nothing.{standard_of_nothing}
use Rattle.worth.specs.Opening.{Opening, opening_behind, opening}
use Rattle.confined.specs.Confined.{confined_message_of}
use Rattle.confined.specs.Need.{Lacks}
use Rattle.confined.specs.declared.ConfinedMessage.{ConfinedMessage}
use Rattle.confined.proofs.Worth as confined
use Rattle.confined.proofs.Worth.{confined_short, confined_worth, confined_lacks}
use Rattle.outline.specs.There.{extended_if, stored_at}
use Rattle.outline.proofs.There.{extended_there, storage_there}
use Rattle.walk.specs.Walk.{Wait, Take}
use Rattle.step.specs.Step.{kind_of, skipped_to_of, heard, asked}
use Rattle.step.proofs.Fair.{waiting, patient}
use Rattle.std.specs.Prelude.{Some, None}

-- what is decided is an entry, at the place of the pattern
module _ (f : List ℕ) (filter : Filter) (s : List ℕ) where
  heard_taken : (a b : ℕ) (x : Ans ConfinedMessage) → (Waits x → ⊥) → (len : ℕ) × (i : ℕ) × (heard a b x ≡ Take a len i)
  heard_taken a b (done v n) w = (b, kind_of v, refl)
  heard_taken a b (need n) w = absurd (w tt)
  heard_taken a b (hickup r) w = (4, 2, refl)
  heard_taken a b broken w = (4, 3, refl)

  taken : (Waits (confined_message_of f filter true s 0) → ⊥) → (len : ℕ) × (i : ℕ) × (asked f filter s ≡ Take (skipped_to_of (find pattern s 0)) len i)
  unfolding asked
  taken w = heard_taken _ _ (confined_message_of f filter true s 0) w

  waited : (n : ℕ) → asked f filter s ≡ Wait n → confined_message_of f filter true s 0 ≡ need n
  unfolding asked
  waited n e = waiting f filter s _ _ (confined_message_of f filter true s 0) e

-- WHAT A NEED IS WORTH TO THE WALK: where it waits and the headers are read, verbose or not, exactly the need in bytes of any value brings an entry
pub worth_an_entry : (f : List ℕ) (filter : Filter) (s : List ℕ) (n : ℕ) (l : Opening) (behind : ℕ) → asked f filter s ≡ Wait n → opening true s 0 ≡ done l behind
    → (more : List ℕ) → length more ≡ n → (k : ℕ) × (len : ℕ) × (i : ℕ) × (asked f filter (s ++ more) ≡ Take k len i)
worth_an_entry f filter s n l behind e read more enough =
    let short = confined_short f filter true s n l behind read (waited f filter s n e) in
    let (len, i, q) = taken f filter (s ++ more) (confined_worth f filter true s n l short more enough) in
    (_, len, i, q)

-- ---- a standard header that is accepted
-- stands within the bytes
standard_near : (s : List ℕ) (at : ℕ) {h : StandardHeader} {b : ℕ} → standard s at ≡ done h b → at ≤ length s
standard_near s at {h} {b} e = by (leb at (length s)) refl
  where
    by : (t : Bool) → leb at (length s) ≡ t → at ≤ length s
    by true q = leb-true _ _ q
    by false q = let far : length s < at = leb-false _ _ q in no_need (sym (standard_of_nothing s at (omega arith)) ∙ e)

maybe_there : (t : Bool) (s : List ℕ) (at : ℕ) → at + one_if_of t * 10 ≤ length s → maybe_extended_of t s at ≡ done (extended_if t s at) (at + one_if_of t * 10)
unfolding maybe_extended_of choose
maybe_there true s at h = step extended _ s at (extended_there s at h) (ret_is _ s (at + 10))
maybe_there false s at h = let z : at + 0 ≡ at = omega arith in ret_is None s at ∙ ap (done None) (sym z)

module _ (s : List ℕ) (k : ℕ) (h : StandardHeader) (b : ℕ) (found : find pattern s 0 ≡ Some k) (accepted : standard s (k + 16) ≡ done h b) where
  abbrev opened : Opening
  opened = record { stored = stored_at s k; start = k + 16; header = h; extended = extended_if h.has_extended_header s b }

  -- with its declared bytes there, steps 2 to 4 read all headers
  opens : k + 16 + overall_length_of h ≤ length s → opening true s 0 ≡ done opened (b + one_if_of h.has_extended_header * 10)
  unfolding opening choose opening_behind overall_length_of
  opens there =
      step storage _ s 0 (storage_there s k found (omega arith))
      (step here _ s (k + 16) (here_is s (k + 16))
      (step standard _ s (k + 16) accepted
      (step (maybe_extended_of h.has_extended_header) _ s b (maybe_there h.has_extended_header s b (omega (arith, standard_ends h b s (k + 16) accepted))) (ret_is opened s _))))

  module _ (f : List ℕ) (filter : Filter) where
    -- ACCEPTED, AND ITS DECLARED BYTES ARE THERE: an entry
    pub decided_there : k + 16 + overall_length_of h ≤ length s → (len : ℕ) × (i : ℕ) × (asked f filter s ≡ Take k len i)
    decided_there there =
        subst (λ (j : ℕ). (len : ℕ) × (i : ℕ) × (asked f filter s ≡ Take j len i)) (ap skipped_to_of found)
        (taken f filter s (confined.decided_there f filter true s opened _ (opens there) (omega arith)))

    no_wait : (n : ℕ) → k + 16 + overall_length_of h ≤ length s → asked f filter s ≡ Wait n → ⊥
    no_wait n there e = let (len, i, q) = decided_there there in let z : ◌≡◌ {A = ℕ} 0 1 = cc in omega arith

    short : (n : ℕ) → asked f filter s ≡ Wait n → length s < k + 16 + overall_length_of h
    short n e = by (leb (k + 16 + overall_length_of h) (length s)) refl
      where
        by : (t : Bool) → leb (k + 16 + overall_length_of h) (length s) ≡ t → length s < k + 16 + overall_length_of h
        by true z = absurd (no_wait n (leb-true _ _ z) e)
        by false z = leb-false _ _ z

-- ---- a need behind an accepted header is at least one byte: the extended header's fields want one, and step 5 too
abbrev Wants : {A : Type 0} → Parser A → Type 0
Wants p = (s : List ℕ) (at n : ℕ) → p s at ≡ need n → 1 ≤ n

asking_wants : {A : Type 0} (n : ℕ) (m : List ℕ → ℕ → ℕ) (g : List ℕ → ℕ → A) → ((s : List ℕ) (at : ℕ) → length s - at < n → 1 ≤ m s at) → Wants (asking n m (λ s at. done (g s at) (at + n)))
unfolding asking
asking_wants {A} n m g h s at k e = by (leb n (length s - at)) refl e
  where
    by : (t : Bool) → leb n (length s - at) ≡ t → pick t (done (g s at) (at + n)) (need (m s at)) ≡ need k → 1 ≤ k
    by true q z = no_need (sym z)
    by false q z = let y : m s at ≡ k = cc in omega (arith, h s at (leb-false _ _ q), y)

then_wants : {A B : Type 0} (p : Parser A) (k : A → Parser B) → Wants p → ((a : A) → Wants (k a)) → Wants (p >>= k)
unfolding ◌>>=◌
then_wants {A} {B} p k hp hk s at n e = by (p s at) refl e
  where
    by : (x : Ans A) → p s at ≡ x → follow x k s ≡ need n → 1 ≤ n
    by (done a b) q z = hk a s b n z
    by (need m) q z = let y : m ≡ n = cc in omega (arith, hp s at m q, y)
    by (hickup r) q z = let y : ◌≡◌ {A = ℕ} 0 1 = cc in absurd (omega arith)
    by broken q z = let y : ◌≡◌ {A = ℕ} 0 1 = cc in absurd (omega arith)

number_wants : (big : Bool) (w : ℕ) → Wants (number big w)
unfolding number fixed having
number_wants big w = asking_wants w (lacking w) (number_of big w) (λ s at h. omega arith)

text_wants : (s : List ℕ) (at n : ℕ) → length s - at < n → 1 ≤ text_need n s at
text_wants s at n h = by (ltb (before0 (length s - at) s at) (length s - at))
  where
    by : (t : Bool) → 1 ≤ pick t (n - (length s - at)) 1
    by true = omega arith
    by false = omega arith

id_wants : Wants identified
unfolding identified text
id_wants = asking_wants 4 (text_need 4) (ended_text 4) (λ s at h. text_wants s at 4 h)

ret_wants : {A : Type 0} (a : A) → Wants (ret a)
unfolding ret
ret_wants a s at n e = no_need (sym e)

maybe_wants : (t : Bool) → Wants (maybe_extended_of t)
unfolding maybe_extended_of choose extended named
maybe_wants true =
    then_wants _ _ (then_wants _ _ (number_wants true 1) (λ info. then_wants _ _ (number_wants true 1) (λ count. then_wants _ _ id_wants (λ a. then_wants _ _ id_wants (λ b. ret_wants _)))))
    (λ x. ret_wants _)
maybe_wants false = ret_wants _

opening_wants : (s : List ℕ) (k : ℕ) (h : StandardHeader) (b n : ℕ) → find pattern s 0 ≡ Some k → standard s (k + 16) ≡ done h b → opening true s 0 ≡ need n → 1 ≤ n
unfolding opening choose opening_behind
opening_wants s k h b n found accepted e =
    let near = standard_near s (k + 16) accepted in
    then_wants (maybe_extended_of h.has_extended_header) _ (maybe_wants h.has_extended_header) (λ x. ret_wants _) s b n
    (sym (then_done storage _ s 0 (storage_there s k found near) ∙ then_done here _ s (k + 16) (here_is s (k + 16)) ∙ then_done standard _ s (k + 16) accepted) ∙ e)

pub at_least_one : (f : List ℕ) (filter : Filter) (s : List ℕ) (k : ℕ) (h : StandardHeader) (b n : ℕ) → find pattern s 0 ≡ Some k → standard s (k + 16) ≡ done h b → asked f filter s ≡ Wait n → 1 ≤ n
at_least_one f filter s k h b n found accepted e = by (confined_lacks f filter true s n (waited f filter s n e))
  where
    by : Lacks true s n → 1 ≤ n
    by (Lacks.early q) = opening_wants s k h b n found accepted q
    by (Lacks.short o q) = q.some

-- ACCEPTED: no wait for a byte past the declared end
pub never_past : (f : List ℕ) (filter : Filter) (s : List ℕ) (k : ℕ) (h : StandardHeader) (b n : ℕ) → find pattern s 0 ≡ Some k → standard s (k + 16) ≡ done h b → asked f filter s ≡ Wait n
    → length s + n ≤ k + 16 + overall_length_of h
never_past f filter s k h b n found accepted e = by (leb (length s + n) end) refl
  where
    end : ℕ
    end = k + 16 + overall_length_of h

    rest : List ℕ
    rest = replicate {A = ℕ} (end - length s) 0

    by : (t : Bool) → leb (length s + n) end ≡ t → length s + n ≤ end
    by true z = leb-true _ _ z
    by false z =
        let more : end < length s + n = leb-false _ _ z in
        let lacks : length s < end = short s k h b found accepted f filter n e in
        let long : length rest ≡ end - length s = length-replicate {A = ℕ} (end - length s) 0 in
        let all : length (s ++ rest) ≡ length s + length rest = length-append s rest in
        let again : standard (s ++ rest) (k + 16) ≡ done h b =
        subst (λ (x : Ans StandardHeader). Kept x (length rest) (standard (s ++ rest) (k + 16))) accepted (standard_law.kept s rest (k + 16) (standard_near s (k + 16) accepted)) in
        let (u, w) = patient f filter s rest n e (omega arith) in
        absurd (no_wait (s ++ rest) k h b (find_stable pattern s rest 0 k (lit< tt) found) again f filter u (omega arith) w)
