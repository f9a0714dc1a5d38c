-- The laws of a rule at one list and position: what a rule has that looks at values of earlier rules.
use Prim.Native.Nat.{ℕ, ◌+◌, ◌-◌, ◌≤◌, ◌<◌}
use native.Mathlib.Omega.{arith}
use mathlib.Core.Path.{◌≡◌, refl, ap, subst}
use mathlib.Core.Bool.{Bool, true, false}
use mathlib.Core.List.{List, ◌++◌}
use lib.ListN.{length, length-append}
use lib.Dec.{leb}
use borrow.Author.Tests.{le-leb, lt-leb, leb-true, leb-false}
use Rattle.wire.specs.Answer.{Ans, Parser}
use Rattle.wire.specs.Answer.Ans.{done, need, hickup, broken}
use Rattle.wire.specs.Parser.{pick, follow, lacking, ◌>>=◌}
use Rattle.wire.specs.Lawful.{Lawful, Kept, Within, Waits}
use Rattle.parse.specs.Message.{having_from, seen}

pub record LawfulAt {A : Type 0} (p : Parser A) (s : List ℕ) (at : ℕ) : Type 0 where
  pub kept : (t : List ℕ) → Kept (p s at) (length t) (p (s ++ t) at)
  pub within : Within at (length s) (p s at)

pub lawful_at : {A : Type 0} (p : Parser A) → Lawful p → (s : List ℕ) (at : ℕ) → at ≤ length s → LawfulAt p s at
lawful_at p l s at h = record { kept = λ t. l.kept s t at h; within = l.within s at h }

pub at_lawful : {A : Type 0} (p : Parser A) → ((s : List ℕ) (at : ℕ) → at ≤ length s → LawfulAt p s at) → Lawful p
at_lawful p l = record { kept = λ s t at h. (l s at h).kept t; within = λ s at h. (l s at h).within }

-- one rule after another: the second is asked only of what the first gave
module _ {A B : Type 0} (p : Parser A) (k : A → Parser B) (s : List ℕ) (at : ℕ) (hp : LawfulAt p s at)
    (hk : (a : A) (b : ℕ) → p s at ≡ done a b → b ≤ length s → LawfulAt (k a) s b) where
  waits : (t : List ℕ) (y : Ans A) → Waits y → Waits (follow y k (s ++ t))
  waits t (done a b) w = absurd w
  waits t (need n) w = tt
  waits t (hickup r) w = absurd w
  waits t broken w = absurd w

  inside : (x : Ans A) → p s at ≡ x → Within at (length s) x
  inside x e = subst (Within at (length s)) e hp.within

  stays : (t : List ℕ) (x : Ans A) → p s at ≡ x → Kept x (length t) (p (s ++ t) at)
  stays t x e = subst (λ (y : Ans A). Kept y (length t) (p (s ++ t) at)) e (hp.kept t)

  follow_kept : (t : List ℕ) (x : Ans A) → p s at ≡ x → Kept (follow x k s) (length t) (follow (p (s ++ t) at) k (s ++ t))
  follow_kept t (done a b) e =
      let f : p (s ++ t) at ≡ done a b = stays t (done a b) e in
      let w : (at ≤ b) × (b ≤ length s) = inside (done a b) e in
      rw f ((hk a b e w.1).kept t)
  follow_kept t (need n) e = λ m. waits t (p (s ++ t) at) (stays t (need n) e m)
  follow_kept t (hickup r) e = let f : p (s ++ t) at ≡ hickup r = stays t (hickup r) e in rw f
  follow_kept t broken e = let f : p (s ++ t) at ≡ broken = stays t broken e in rw f

  further : (b : ℕ) → at ≤ b → (y : Ans B) → Within b (length s) y → Within at (length s) y
  further b h (done a c) w = (omega (arith, w.0), w.1)
  further b h (need n) w = tt
  further b h (hickup r) w = tt
  further b h broken w = tt

  follow_within : (x : Ans A) → p s at ≡ x → Within at (length s) (follow x k s)
  follow_within (done a b) e =
      let w : (at ≤ b) × (b ≤ length s) = inside (done a b) e in
      further b w.0 (k a s b) (hk a b e w.1).within
  follow_within (need n) e = tt
  follow_within (hickup r) e = tt
  follow_within broken e = tt

  pub then_at : LawfulAt (p >>= k) s at
  unfolding ◌>>=◌
  then_at = record { kept = λ t. follow_kept t (p s at) refl; within = follow_within (p s at) refl }

-- a value that is told from the bytes and stays with more of them
pub seen_at : {A : Type 0} (f : List ℕ → A) (s : List ℕ) (at : ℕ) → at ≤ length s → ((t : List ℕ) → f (s ++ t) ≡ f s) → LawfulAt (seen f) s at
unfolding seen
seen_at f s at h e = record { kept = λ t. ap (λ a. done a at) (e t); within = (omega arith, h) }

-- bytes that must stand at an earlier position
module _ {A : Type 0} (start n : ℕ) (p : Parser A) (s : List ℕ) (at : ℕ) (hp : LawfulAt p s at) where
  from_kept : (t : List ℕ) (b : Bool) → leb n (length s - start) ≡ b
      → Kept (pick b (p s at) (need (lacking n s start))) (length t) (pick (leb n (length (s ++ t) - start)) (p (s ++ t) at) (need (lacking n (s ++ t) start)))
  from_kept t true e =
      let f : n ≤ length s - start = leb-true _ _ e in
      let l : length (s ++ t) ≡ length s + length t = length-append s t in
      rw (le-leb n (length (s ++ t) - start) (omega arith)) (hp.kept t)
  from_kept t false e = λ few.
      let f : length s - start < n = leb-false _ _ e in
      let l : length (s ++ t) ≡ length s + length t = length-append s t in
      rw (lt-leb n (length (s ++ t) - start) (omega arith)) tt

  from_within : (b : Bool) → Within at (length s) (pick b (p s at) (need (lacking n s start)))
  from_within true = hp.within
  from_within false = tt

  pub from_at : LawfulAt (having_from start n p) s at
  unfolding having_from
  from_at = record { kept = λ t. from_kept t (leb n (length s - start)) refl; within = from_within (leb n (length s - start)) }
