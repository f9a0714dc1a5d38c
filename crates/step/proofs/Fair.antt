-- The confined reading is fair to the walk: what it decides stays with more bytes, lies within the bytes, and takes at least one. Assumes nothing.
use Prim.Native.Nat.{ℕ, ◌+◌, ◌≤◌, ◌<◌, zero-le}
use native.Mathlib.Omega.{arith}
use mathlib.Core.Path.{◌≡◌, refl, sym, ap, ◌∙◌, subst}
use mathlib.Core.Bool.{true}
use mathlib.Core.List.{List, ◌++◌}
use lib.ListN.{length}
use lib.Dec.{lit<}
use Rattle.wire.specs.Answer.{Ans, numbered}
use Rattle.wire.specs.Answer.Ans.{done, need, hickup, broken}
use Rattle.wire.specs.Lawful.{Waits, Kept}
use Rattle.wire.proofs.Laws.{of_two}
use Rattle.wire.proofs.Step.{then_need}
use Rattle.mark.specs.First.{pattern, find}
use Rattle.mark.proofs.Laws.{found_within, find_stable}
use Rattle.headertype.specs.HeaderType.{overall_length_of}
use Rattle.headers.proofs.Inverse.{split}
use Rattle.filter.specs.declared.Filter.{Filter}
use Rattle.parse.specs.Message.{routed}
use Rattle.parse.specs.declared.Headers.{Headers}
use Rattle.facts.proofs.Laws.{routed_law}
use Rattle.confined.specs.Confined.{confined_body_of, confined_message_of}
use Rattle.confined.specs.declared.ConfinedMessage.{ConfinedMessage}
use Rattle.confined.proofs.Laws.{confined_stable, confined_honest}
use Rattle.walk.specs.Walk.{Step, Wait, Take, Fair}
use Rattle.step.specs.Step.{skipped_to_of, length_of, heard, asked}
use Rattle.step.proofs.Place.{placed, no_pattern}
use Rattle.std.specs.Prelude.{Option, Some, None}

-- two steps that are one
same_take : {k k' l l' i i' : ℕ} → ◌≡◌ {A = Step ℕ ℕ} (Take k l i) (Take k' l' i') → (k ≡ k') × (l ≡ l')
same_take e = (cc, cc)

no_wait : {X : Type 0} {k l i n : ℕ} → ◌≡◌ {A = Step ℕ ℕ} (Wait n) (Take k l i) → X
no_wait e = let z : ◌≡◌ {A = ℕ} 0 1 = cc in absurd (omega arith)

-- an entry is taken only of an answer that is not Incomplete
decides : (a b : ℕ) (x : Ans ConfinedMessage) {k l i : ℕ} → heard a b x ≡ Take k l i → Waits x → ⊥
decides a b (done v n) e w = w
decides a b (need n) e w = no_wait e
decides a b (hickup r) e w = w
decides a b broken e w = w

module _ (f : List ℕ) (filter : Filter) (s : List ℕ) where
  -- a decided answer rests on a pattern, on headers that stay, and stays itself
  at_pattern : (x : Option ℕ) → find pattern s 0 ≡ x → (Waits (confined_message_of f filter true s 0) → ⊥) → find pattern s 0 ≡ Some (skipped_to_of (find pattern s 0))
  at_pattern (Some i) e w = rw e
  at_pattern None e w = absurd (w (no_pattern f filter s e))

  read_again : (t : List ℕ) (x : Ans Headers) → routed f filter true s 0 ≡ x → (Waits (confined_message_of f filter true s 0) → ⊥) → Kept x (length t) (routed f filter true (s ++ t) 0)
      → routed f filter true (s ++ t) 0 ≡ x
  unfolding confined_message_of
  read_again t (done h n) e w k = k
  read_again t (need n) e w k = absurd (w (subst Waits (sym (then_need (routed f filter true) confined_body_of s 0 e)) tt))
  read_again t (hickup r) e w k = k
  read_again t broken e w k = k

  pub stays : (t : List ℕ) → (Waits (confined_message_of f filter true s 0) → ⊥) → asked f filter (s ++ t) ≡ asked f filter s
  unfolding asked
  stays t w =
      let p = at_pattern (find pattern s 0) refl w in
      let a : find pattern (s ++ t) 0 ≡ find pattern s 0 = find_stable pattern s t 0 _ (lit< tt) p ∙ sym p in
      let b : routed f filter true (s ++ t) 0 ≡ routed f filter true s 0 =
      read_again t (routed f filter true s 0) refl w ((routed_law f filter true).kept s t 0 zero-le) in
      let c : confined_message_of f filter true (s ++ t) 0 ≡ confined_message_of f filter true s 0 = confined_stable f filter true s t (λ e. w (of_two (confined_message_of f filter true s 0) e)) in
      rw (a, b, c)

  -- item, filtered and overrun: every declared byte is there
  whole : {k l n : ℕ} (m : ConfinedMessage) → confined_message_of f filter true s 0 ≡ done m n
      → (skipped_to_of (find pattern s 0) ≡ k) × (length_of (routed f filter true s 0) ≡ l) → (k + l ≤ length s) × (1 ≤ l)
  unfolding confined_message_of
  whole m q w =
      let r = split (routed f filter true) confined_body_of s 0 q in
      let p = placed f filter s r.first in
      let a : skipped_to_of (find pattern s 0) ≡ p.place = ap skipped_to_of p.found in
      let b : length_of (routed f filter true s 0) ≡ 16 + overall_length_of r.value.header = ap length_of r.first in
      (omega (arith, p.lies, a, b, w.0, w.1), omega (arith, b, w.1))

  -- Hickup and Unrecoverable: the pattern is there
  bare : {k l : ℕ} → (Waits (confined_message_of f filter true s 0) → ⊥) → (skipped_to_of (find pattern s 0) ≡ k) × (4 ≡ l) → (k + l ≤ length s) × (1 ≤ l)
  bare w e =
      let p = at_pattern (find pattern s 0) refl w in
      (omega (arith, found_within pattern s 0 _ (lit< tt) p, e.0, e.1), omega (arith, e.1))

  lies : {k l i : ℕ} (x : Ans ConfinedMessage) → confined_message_of f filter true s 0 ≡ x
      → heard (skipped_to_of (find pattern s 0)) (length_of (routed f filter true s 0)) x ≡ Take k l i → (k + l ≤ length s) × (1 ≤ l)
  lies (done v n) q e = whole v q (same_take e)
  lies (need n) q e = no_wait e
  lies (hickup r) q e = bare (subst (λ (x : Ans ConfinedMessage). Waits x → ⊥) (sym q) (λ w. w)) (same_take e)
  lies broken q e = bare (subst (λ (x : Ans ConfinedMessage). Waits x → ⊥) (sym q) (λ w. w)) (same_take e)

  decided : {k l i : ℕ} → asked f filter s ≡ Take k l i → (k + l ≤ length s) × (1 ≤ l)
  unfolding asked
  decided e = lies (confined_message_of f filter true s 0) refl e

  settled : {k l i : ℕ} (t : List ℕ) → asked f filter s ≡ Take k l i → asked f filter (s ++ t) ≡ asked f filter s
  unfolding asked
  settled t e = stays t (decides _ _ (confined_message_of f filter true s 0) e)

  -- the second of document 01's two facts, as the walk hears it
  pub waiting : (a b : ℕ) (x : Ans ConfinedMessage) {n : ℕ} → heard a b x ≡ Wait n → x ≡ need n
  waiting a b (done v n) e = no_wait (sym e)
  waiting a b (need n) e = cc
  waiting a b (hickup r) e = no_wait (sym e)
  waiting a b broken e = no_wait (sym e)

  waits : (x : Ans ConfinedMessage) (a b : ℕ) → Waits x → (u : ℕ) × (heard a b x ≡ Wait u)
  waits (done m n) a b w = absurd w
  waits (need n) a b w = (n, refl)
  waits (hickup r) a b w = absurd w
  waits broken a b w = absurd w

pub fair : (f : List ℕ) (filter : Filter) → Fair (asked f filter)
fair f filter = record {
  stable = λ s t k l i e. settled f filter s t e ∙ e;
  within = λ s k l i e. (decided f filter s e).0;
  moves = λ s k l i e. (decided f filter s e).1;
}

-- after a need, fewer bytes than it leave the walk waiting
pub patient : (f : List ℕ) (filter : Filter) (s t : List ℕ) (n : ℕ) → asked f filter s ≡ Wait n → length t < n → (u : ℕ) × (asked f filter (s ++ t) ≡ Wait u)
unfolding asked
patient f filter s t n e few =
    let more = confined_message_of f filter true (s ++ t) 0 in
    waits f filter s more _ _ (of_two more (confined_honest f filter true s t n (ap numbered (waiting f filter s _ _ (confined_message_of f filter true s 0) e)) few))
