-- A cursor over any elements.
--     in_a_row       n calls give the first n of those that are left: their list, or its need or Hickup
--     to-its-end     and as many calls as are left, or more, give the whole list: the cursor walked to its end is the list
--     never-more     however often it is called, a cursor hands out no more than it has left
-- Assumes nothing.
use Prim.Native.Nat.{ℕ, zero, suc, ◌≤◌, zero-le}
use native.Mathlib.Omega.{arith}
use mathlib.Core.Path.{◌≡◌, refl, sym, ap, ◌∙◌}
use mathlib.Core.List.{List, [], ◌∷◌}
use Rattle.wire.specs.Answer.{Ans, Parser}
use Rattle.wire.specs.Answer.Ans.{done, need, hickup, broken}
use Rattle.wire.specs.Parser.{◌>>=◌, ret, here, follow}
use Rattle.wire.proofs.Step.{then_done, then_need, then_hickup, then_broken, ret_is, here_is}
use Rattle.cursor.specs.Row.{Step, item, end, mapped, before, onward, walk, counted, handed}

pub mapped_twice : {A B D : Type 0} (f : B → D) (g : A → B) (x : Ans A) → mapped f (mapped g x) ≡ mapped (λ a. f (g a)) x
mapped_twice f g (done a b) = refl
mapped_twice f g (need n) = refl
mapped_twice f g (hickup r) = refl
mapped_twice f g broken = refl

-- a list of one more, by what the first element's rule answers
abbrev pub more : {A : Type 0} → (ℕ → Ans (List A)) → Ans A → Ans (List A)
more rest (done a b) = before a (rest b)
more rest (need n) = need n
more rest (hickup r) = hickup r
more rest broken = broken

module _ {A : Type 0} (p : Parser A) (q : Parser (List A)) (s : List ℕ) where
  before_is : (a : A) (x : Ans (List A)) → follow x (λ rest. ret (a ∷ rest)) s ≡ before a x
  unfolding ret
  before_is a (done rest b) = refl
  before_is a (need n) = refl
  before_is a (hickup r) = refl
  before_is a broken = refl

  pub more_is : (at : ℕ) → (p >>= (λ a. q >>= (λ rest. ret (a ∷ rest)))) s at ≡ more (q s) (p s at)
  unfolding ◌>>=◌
  more_is at = by (p s at)
    where
      by : (x : Ans A) → follow x (λ a s at. follow (q s at) (λ rest. ret (a ∷ rest)) s) s ≡ more (q s) x
      by (done a b) = before_is a (q s b)
      by (need n) = refl
      by (hickup r) = refl
      by broken = refl

module _ {A C : Type 0} (left : C → ℕ) (list : ℕ → C → Ans (List A)) where
  -- a call with k + 1 left, and y, the list of n + 1
  abbrev pub Goes : ℕ → ℕ → Ans (Step A C) → Ans (List A) → Type 0
  Goes k n (done (item a d) b) y = (left d ≡ k) × (y ≡ before a (list n d))
  Goes k n (done end b) y = ⊥
  Goes k n (need m) y = y ≡ need m
  Goes k n (hickup r) y = y ≡ hickup r
  Goes k n broken y = y ≡ broken

-- ---- a call that asks a rule p once and hands out its value, with the cursor that stands behind it
-- what it answers, by what the rule answers there
abbrev pub next : {A C : Type 0} → (ℕ → C) → Ans A → Ans (Step A C)
next behind (done a b) = done (item a (behind b)) b
next behind (need n) = need n
next behind (hickup r) = hickup r
next behind broken = broken

module _ {A C T : Type 0} (p : Parser A) (turn : A → ℕ → T) (step : T → Step A C) (behind : ℕ → C) (is : (a : A) (b : ℕ) → step (turn a b) ≡ item a (behind b)) (s : List ℕ) (at : ℕ) where
  pub next_is : mapped step ((p >>= (λ a. here >>= (λ b. ret (turn a b)))) s at) ≡ next behind (p s at)
  next_is = by (p s at) refl
    where
      by : (x : Ans A) → p s at ≡ x → mapped step ((p >>= (λ a. here >>= (λ b. ret (turn a b)))) s at) ≡ next behind x
      by (done a b) e = ap (mapped step) (then_done p _ s at e ∙ then_done here _ s b (here_is s b) ∙ ret_is _ s b) ∙ ap (λ (t : Step A C). done t b) (is a b)
      by (need n) e = ap (mapped step) (then_need p _ s at e)
      by (hickup r) e = ap (mapped step) (then_hickup p _ s at e)
      by broken e = ap (mapped step) (then_broken p _ s at e)

-- it goes on as it has to, if the cursor behind has one less left and the list's rest is its list
pub goes_on : {A C : Type 0} (left : C → ℕ) (list : ℕ → C → Ans (List A)) (behind : ℕ → C) (rest : ℕ → Ans (List A)) (k n : ℕ)
    → ((b : ℕ) → (left (behind b) ≡ k) × (rest b ≡ list n (behind b))) → (x : Ans A) → Goes left list k n (next behind x) (more rest x)
goes_on left list behind rest k n h (done a b) = ((h b).0, ap (before a) (h b).1)
goes_on left list behind rest k n h (need m) = refl
goes_on left list behind rest k n h (hickup r) = refl
goes_on left list behind rest k n h broken = refl

-- how a cursor c with `left c` elements left has to answer, where `list n c` is the list of the first n of them
pub record Faithful {A C : Type 0} (call : C → Ans (Step A C)) (place left : C → ℕ) (list : ℕ → C → Ans (List A)) : Type 0 where
  pub none : (c : C) → list 0 c ≡ done [] (place c)
  pub ends : (c : C) → left c ≡ 0 → call c ≡ done end (place c)
  pub goes : (c : C) (k n : ℕ) → left c ≡ suc k → Goes left list k n (call c) (list (suc n) c)

module _ {A C : Type 0} {call : C → Ans (Step A C)} {place left : C → ℕ} {list : ℕ → C → Ans (List A)} (f : Faithful call place left list) where
  first : (n m k : ℕ) (x : Ans (Step A C)) (y : Ans (List A)) → Goes left list k m x y → ((d : C) → left d ≡ k → walk call place n d ≡ list m d) → onward (walk call place n) x ≡ y
  first n m k (done (item a d) b) y g next = ap (before a) (next d g.0) ∙ sym g.1
  first n m k (done end b) y g next = absurd g
  first n m k (need l) y g next = sym g
  first n m k (hickup r) y g next = sym g
  first n m k broken y g next = sym g

  pub in_a_row : (n : ℕ) (c : C) → n ≤ left c → walk call place n c ≡ list n c
  in_a_row zero c h = sym (f.none c)
  in_a_row (suc n) c h = by (left c) refl (in_a_row n)
    where
      by : (k : ℕ) → left c ≡ k → ((d : C) → n ≤ left d → walk call place n d ≡ list n d) → onward (walk call place n) (call c) ≡ list (suc n) c
      by zero e next = absurd (let z : suc n ≤ 0 = rw (← e) h in omega arith)
      by (suc k) e next = first n n k (call c) (list (suc n) c) (f.goes c k n e) (λ d g. next d (omega arith))

  pub to_its_end : (n : ℕ) (c : C) → left c ≤ n → walk call place n c ≡ list (left c) c
  to_its_end zero c h = let e : left c ≡ 0 = omega arith in rw e (sym (f.none c))
  to_its_end (suc n) c h = by (left c) refl (to_its_end n)
    where
      by : (k : ℕ) → left c ≡ k → ((d : C) → left d ≤ n → walk call place n d ≡ list (left d) d) → onward (walk call place n) (call c) ≡ list k c
      by zero e next = ap (onward (walk call place n)) (f.ends c e) ∙ sym (f.none c)
      by (suc k) e next = first n k k (call c) (list (suc k) c) (f.goes c k k e) (λ d g. next d (omega arith) ∙ ap (λ (l : ℕ). list l d) g)

  pub never_more : (n : ℕ) (c : C) → handed call n c ≤ left c
  never_more zero c = zero-le
  never_more (suc n) c = by (left c) refl (never_more n)
    where
      some : (k : ℕ) (x : Ans (Step A C)) (y : Ans (List A)) → Goes left list k 0 x y → ((d : C) → handed call n d ≤ left d) → counted (handed call n) x ≤ suc k
      some k (done (item a d) b) y g less = let l : handed call n d ≤ left d = less d in omega (arith, g.0)
      some k (done end b) y g less = zero-le
      some k (need m) y g less = zero-le
      some k (hickup r) y g less = zero-le
      some k broken y g less = zero-le

      by : (k : ℕ) → left c ≡ k → ((d : C) → handed call n d ≤ left d) → counted (handed call n) (call c) ≤ k
      by zero e less = rw (f.ends c e) zero-le
      by (suc k) e less = some k (call c) (list 1 c) (f.goes c k 0 e) less
