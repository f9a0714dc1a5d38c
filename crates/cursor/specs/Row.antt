-- A cursor by value over any elements: what its calls hand out, one after another.
use Rattle.std.specs.Prelude.{ℕ, zero, suc, List, [], ◌∷◌}
use Rattle.wire.specs.Answer.{Ans}
use Rattle.wire.specs.Answer.Ans.{done, need, hickup, broken}

-- what a call gives: an element and the cursor behind it, or the end
pub data Step (A C : Type 0) : Type 0 where
  item : A → C → Step A C
  end : Step A C

-- an answer with what f makes of its value
abbrev pub mapped : {A B : Type 0} → (A → B) → Ans A → Ans B
mapped f (done a b) = done (f a) b
mapped f (need n) = need n
mapped f (hickup r) = hickup r
mapped f broken = broken

-- an element before others
abbrev pub before : {A : Type 0} → A → Ans (List A) → Ans (List A)
before a = mapped (λ rest. a ∷ rest)

-- what follows a call: the element that it handed out and what the calls after it give, or the end of all
abbrev pub onward : {A C : Type 0} → (C → Ans (List A)) → Ans (Step A C) → Ans (List A)
onward k (done (item a c) b) = before a (k c)
onward k (done end b) = done [] b
onward k (need n) = need n
onward k (hickup r) = hickup r
onward k broken = broken

-- all that n calls hand out, in order, and where the last of them leaves the cursor
abbrev pub walk : {A C : Type 0} → (C → Ans (Step A C)) → (C → ℕ) → ℕ → C → Ans (List A)
walk call place zero c = done [] (place c)
walk call place (suc n) c = onward (walk call place n) (call c)

-- how many elements n calls hand out
abbrev pub counted : {A C : Type 0} → (C → ℕ) → Ans (Step A C) → ℕ
counted k (done (item a c) b) = suc (k c)
counted k (done end b) = 0
counted k (need n) = 0
counted k (hickup r) = 0
counted k broken = 0

abbrev pub handed : {A C : Type 0} → (C → Ans (Step A C)) → ℕ → C → ℕ
handed call zero c = 0
handed call (suc n) c = counted (handed call n) (call c)
