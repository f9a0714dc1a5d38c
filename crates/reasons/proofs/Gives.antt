-- A rule gives no reasons but these: a law for each way to make a rule of others.
-- Assumes nothing.
use Prim.Native.Nat.{ℕ, zero, suc, ◌+◌, ◌-◌}
use mathlib.Core.Path.{◌≡◌}
use mathlib.Core.Bool.{Bool, true, false}
use mathlib.Core.List.{List}
use lib.ListN.{length, take}
use lib.Dec.{leb}
use Rattle.wire.specs.Answer.{Ans, Parser}
use Rattle.wire.specs.Answer.Ans.{done, need, hickup, broken}
use Rattle.wire.specs.Parser.{pick, follow, ret, here, refuse, fail, choose, asking, having, fixed, times, ◌>>=◌}
use Rattle.wire.specs.Number.{number, numeric}
use Rattle.wire.specs.Run.{bytes}
use Rattle.strings.specs.Text.{text, identified}
use Rattle.confined.specs.Confined.{shut, confined}
use Rattle.reasons.specs.Reasons.{is_one_of}

-- an answer that is a Hickup has one of these reasons
abbrev pub Of : {A : Type 0} → List ℕ → Ans A → Type 0
Of all (done a b) = Unit
Of all (need n) = Unit
Of all (hickup r) = is_one_of r all ≡ true
Of all broken = Unit

pub record Gives {A : Type 0} (all : List ℕ) (p : Parser A) : Type 0 where
  pub gives : (s : List ℕ) (at : ℕ) → Of all (p s at)

module _ (all : List ℕ) where
  pub ret_gives : {A : Type 0} (a : A) → Gives all (ret a)
  unfolding ret
  ret_gives a = record { gives = λ s at. tt }

  pub here_gives : Gives all here
  unfolding here
  here_gives = record { gives = λ s at. tt }

  pub fail_gives : (A : Type 0) → Gives all (fail {A = A})
  unfolding fail
  fail_gives A = record { gives = λ s at. tt }

  pub refuse_gives : (A : Type 0) (r : ℕ) → is_one_of r all ≡ true → Gives all (refuse {A = A} r)
  unfolding refuse
  refuse_gives A r h = record { gives = λ s at. h }

  pub choose_gives : {A : Type 0} (t : Bool) (p q : Parser A) → Gives all p → Gives all q → Gives all (choose t p q)
  unfolding choose
  choose_gives true p q a b = a
  choose_gives false p q a b = b

  pub follow_gives : {A B : Type 0} (k : A → Parser B) → ((a : A) → Gives all (k a)) → (s : List ℕ) (x : Ans A) → Of all x → Of all (follow x k s)
  follow_gives k b s (done v n) h = (b v).gives s n
  follow_gives k b s (need n) h = tt
  follow_gives k b s (hickup r) h = h
  follow_gives k b s broken h = tt

  pub then_gives : {A B : Type 0} (p : Parser A) (k : A → Parser B) → Gives all p → ((a : A) → Gives all (k a)) → Gives all (p >>= k)
  unfolding ◌>>=◌
  then_gives p k a b = record { gives = λ s at. follow_gives k b s (p s at) (a.gives s at) }

  -- bytes that must be there, and then a rule
  pub asking_gives : {A : Type 0} (n : ℕ) (m : List ℕ → ℕ → ℕ) (p : Parser A) → Gives all p → Gives all (asking n m p)
  unfolding asking
  asking_gives {A} n m p h = record { gives = λ s at. by s at (leb n (length s - at)) }
    where
      by : (s : List ℕ) (at : ℕ) (t : Bool) → Of all (pick t (p s at) (need (m s at)))
      by s at true = h.gives s at
      by s at false = tt

  pub having_gives : {A : Type 0} (n : ℕ) (p : Parser A) → Gives all p → Gives all (having n p)
  unfolding having
  having_gives n p h = asking_gives n _ p h

  -- a rule that is shown a part of the bytes alone
  shut_gives : {A : Type 0} (over : A) (end : ℕ) (x : Ans A) → Of all x → Of all (shut over end x)
  shut_gives over end (done a b) h = tt
  shut_gives over end (need n) h = tt
  shut_gives over end (hickup r) h = h
  shut_gives over end broken h = tt

  pub confined_gives : {A : Type 0} (n : ℕ) (over : A) (p : Parser A) → Gives all p → Gives all (confined n over p)
  unfolding confined
  confined_gives n over p h = having_gives n _ (record { gives = λ s at. shut_gives over (at + n) (p (take (at + n) s) at) (h.gives (take (at + n) s) at) })

  fixed_gives : {A : Type 0} (n : ℕ) (f : List ℕ → ℕ → A) → Gives all (fixed n f)
  unfolding fixed
  fixed_gives n f = having_gives n _ (record { gives = λ s at. tt })

  pub number_gives : (big : Bool) (w : ℕ) → Gives all (number big w)
  unfolding number
  number_gives big w = fixed_gives w _

  pub bytes_gives : (n : ℕ) → Gives all (bytes n)
  unfolding bytes
  bytes_gives n = fixed_gives n _

  pub text_gives : (n : ℕ) → Gives all (text n)
  unfolding text
  text_gives n = asking_gives n _ _ (record { gives = λ s at. tt })

  pub id_gives : Gives all identified
  unfolding identified
  id_gives = text_gives 4

  pub numeric_gives : {A : Type 0} (meaning : ℕ → A) (big : Bool) (w : ℕ) → Gives all (numeric meaning big w)
  unfolding numeric
  numeric_gives meaning big w = then_gives (number big w) _ (number_gives big w) (λ n. ret_gives _)

  pub times_gives : {A : Type 0} (n : ℕ) (p : Parser A) → Gives all p → Gives all (times n p)
  unfolding times
  times_gives zero p h = ret_gives tt
  times_gives (suc n) p h = then_gives p _ h (λ a. times_gives n p h)

pub ruleset giving = (ret_gives, here_gives, fail_gives, refuse_gives, choose_gives, then_gives, having_gives, number_gives, bytes_gives, text_gives, id_gives, numeric_gives, times_gives)
