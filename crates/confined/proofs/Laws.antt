-- The confined reading keeps the laws of a rule, whatever rule it confines; what it answers hangs on its own bytes alone. Assumes nothing.
use Prim.Native.Nat.{ℕ, ◌+◌, ◌-◌, ◌≤◌}
use native.Mathlib.Omega.{arith}
use mathlib.Core.Path.{◌≡◌, refl, sym, ap, ◌∙◌}
use mathlib.Core.Bool.{Bool, true, false}
use mathlib.Core.List.{List}
use lib.ListN.{length, take}
use lib.Seq.{take-append-le, take-take, length-take-le}
use lib.Dec.{leb}
use borrow.Author.Tests.{le-leb}
use Rattle.wire.specs.Answer.{Ans, Parser}
use Rattle.wire.specs.Answer.Ans.{done, need, hickup, broken}
use Rattle.wire.specs.Parser.{pick, asking, having, lacking}
use Rattle.wire.specs.Lawful.{Lawful, Kept, Within, Waits, Stable, Honest}
use Rattle.wire.proofs.Laws.{asking_law, then_law, stable, honest}
use Rattle.headers.proofs.Inverse.{same_value, no_need, no_hickup, no_broken}
use Rattle.filter.specs.declared.Filter.{Filter}
use Rattle.parse.specs.Message.{routed}
use Rattle.parse.specs.declared.Headers.{Headers}
use Rattle.facts.proofs.Laws.{routed_law}
use Rattle.confined.specs.Confined.{shut, confined, confined_body_of, confined_message_of}
use Rattle.confined.specs.declared.ConfinedMessage.{ConfinedMessage}

shut_kept : {A : Type 0} (over : A) (end m : ℕ) (x : Ans A) → Kept (shut over end x) m (shut over end x)
shut_kept over end m (done a b) = refl
shut_kept over end m (need n) = refl
shut_kept over end m (hickup r) = refl
shut_kept over end m broken = refl

shut_within : {A : Type 0} (over : A) (at end len : ℕ) → at ≤ end → end ≤ len → (x : Ans A) → Within at len (shut over end x)
shut_within over at end len h g (done a b) = (h, g)
shut_within over at end len h g (need n) = (h, g)
shut_within over at end len h g (hickup r) = tt
shut_within over at end len h g broken = tt

-- it never waits
shut_decides : {A : Type 0} (over : A) (end : ℕ) (x : Ans A) → Waits (shut over end x) → ⊥
shut_decides over end (done a b) w = w
shut_decides over end (need n) w = w
shut_decides over end (hickup r) w = w
shut_decides over end broken w = w

module _ {A : Type 0} (n : ℕ) (over : A) (p : Parser A) where
  -- NOTHING is asked of p, not even its own law
  pub confined_law : Lawful (confined n over p)
  unfolding confined having
  confined_law =
      asking_law n (lacking n) (λ s at. shut over (at + n) (p (take (at + n) s) at)) (λ s at h. omega arith)
      (λ s t at h. rw (take-append-le (at + n) s t h) (shut_kept over (at + n) (length t) (p (take (at + n) s) at)))
      (λ s at h. shut_within over at (at + n) (length s) (omega arith) h (p (take (at + n) s) at))

  module _ (s : List ℕ) (at : ℕ) (there : at + n ≤ length s) where
    -- where the part is there, the reading is the rule over the bytes up to its end
    pub cut : confined n over p s at ≡ shut over (at + n) (p (take (at + n) s) at)
    unfolding confined having asking
    cut = rw (le-leb n (length s - at) (omega arith))

    -- so that it is decided
    pub confined_decides : Waits (confined n over p s at) → ⊥
    confined_decides w = shut_decides over (at + n) (p (take (at + n) s) at) (rw cut at w)

  -- a value ends where the part does
  pub part_end : (s : List ℕ) (at : ℕ) {a : A} {b : ℕ} → confined n over p s at ≡ done a b → b ≡ at + n
  unfolding confined having asking
  part_end s at {a} {b} e = by (leb n (length s - at)) e
    where
      shut_end : (x : Ans A) → shut over (at + n) x ≡ done a b → b ≡ at + n
      shut_end (done c d) q = (same_value q).1
      shut_end (need m) q = (same_value q).1
      shut_end (hickup r) q = no_hickup q
      shut_end broken q = no_broken q

      by : (t : Bool) → pick t (shut over (at + n) (p (take (at + n) s) at)) (need (lacking n s at)) ≡ done a b → b ≡ at + n
      by true q = shut_end (p (take (at + n) s) at) q
      by false q = no_need q

  -- and it is the same of these bytes alone, and of all that hold them
  pub own : (s : List ℕ) (at m : ℕ) → at + n ≤ m → m ≤ length s → confined n over p (take m s) at ≡ confined n over p s at
  own s at m h g =
      let l : length (take m s) ≡ m = length-take-le m s g in
      cut (take m s) at (omega arith)
      ∙ ap (λ (u : List ℕ). shut over (at + n) (p u at)) (take-take (at + n) m s h)
      ∙ sym (cut s at (omega arith))

-- ---- of the message
pub body_end : (h : Headers) (s : List ℕ) (at : ℕ) {v : ConfinedMessage} {b : ℕ} → confined_body_of h s at ≡ done v b → b ≡ at + h.header.payload_length
unfolding confined_body_of
body_end h s at e = part_end _ _ _ s at e

pub confined_body_law : (h : Headers) → Lawful (confined_body_of h)
unfolding confined_body_of
confined_body_law h = confined_law _ _ _

pub confined_message_law : (f : List ℕ) (filter : Filter) (t : Bool) → Lawful (confined_message_of f filter t)
unfolding confined_message_of
confined_message_law f filter t = then_law (routed f filter t) confined_body_of (routed_law f filter t) confined_body_law

-- the two facts of it
pub confined_stable : (f : List ℕ) (filter : Filter) (t : Bool) → Stable (confined_message_of f filter t)
confined_stable f filter t = stable (confined_message_of f filter t) (confined_message_law f filter t)

pub confined_honest : (f : List ℕ) (filter : Filter) (t : Bool) → Honest (confined_message_of f filter t)
confined_honest f filter t = honest (confined_message_of f filter t) (confined_message_law f filter t)
