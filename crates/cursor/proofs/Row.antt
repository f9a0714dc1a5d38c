-- Arguments in a row, handed out one a call: the cursor is faithful to the list (proofs/Walks.antt says what follows from that).
--     in_a_row       n calls give the first n of those that are left: the list of n, or its need or Hickup
--     to-its-end     and as many calls as are left, or more, give the whole list: the cursor walked to its end is the list
--     never-more     however often it is called, a cursor hands out no more than it has left
--     at-the-end     and with none left it is at its end, whatever the bytes
--     all-passed     what passes them in one call is that list, not kept
-- Assumes nothing.
use Prim.Native.Nat.{ℕ, zero, suc, ◌-◌, ◌≤◌}
use native.Mathlib.Omega.{arith}
use mathlib.Core.Path.{◌≡◌, refl, sym, ap, ◌∙◌}
use mathlib.Core.Bool.{Bool}
use mathlib.Core.List.{List, ◌∷◌}
use borrow.Author.Tests.{le-leb, lt-leb}
use Rattle.wire.specs.Answer.{Ans}
use Rattle.wire.specs.Answer.Ans.{done, need, hickup, broken}
use Rattle.wire.specs.Parser.{times, ◌>>=◌, ret}
use Rattle.wire.proofs.Step.{then_done, then_need, then_hickup, then_broken, choose_true, choose_false, ret_is}
use Rattle.dlt.specs.declared.Argument.{Argument}
use Rattle.arguments.specs.Argument.{argument}
use Rattle.std.specs.Prelude.{Some, None}
use Rattle.cursor.specs.Row.{mapped, walk, handed}
use Rattle.cursor.specs.Cursor.{arguments, listed, cursor, turn, step_of, called, passed}
use Rattle.cursor.specs.declared.Cursor.{Cursor}
use Rattle.cursor.proofs.Walks as walks
use Rattle.cursor.proofs.Walks.{mapped_twice, more, more_is, next, next_is, goes_on, Faithful}

-- the cursor behind an argument that ends at b
abbrev behind : Cursor → ℕ → Cursor
behind c b = cursor b (c.left - 1) c.big

module _ (c : Cursor) (s : List ℕ) (at : ℕ) where
  turn_some : 1 ≤ c.left → mapped step_of (turn c s at) ≡ next (behind c) (argument c.big s at)
  unfolding turn
  turn_some h = ap (mapped step_of) (choose_true _ _ s at (le-leb 1 c.left h))
      ∙ next_is (argument c.big) (λ a b. Some (record { argument = a; rest = behind c b })) step_of (behind c) (λ a b. refl) s at

  pub at_the_end : c.left ≡ 0 → turn c s at ≡ done None at
  unfolding turn
  at_the_end h = choose_false _ _ s at (lt-leb 1 c.left (omega arith)) ∙ ret_is _ s at

pub listed_more : (big : Bool) (s : List ℕ) (n at : ℕ) → listed big (suc n) s at ≡ more (listed big n s) (argument big s at)
unfolding listed
listed_more big s n at = more_is (argument big) (listed big n) s at

-- the list of the first n that a cursor has left
abbrev firsts : List ℕ → ℕ → Cursor → Ans (List Argument)
firsts s n c = listed c.big n s c.at

faithful : (s : List ℕ) → Faithful (called s) (λ c. c.at) (λ c. c.left) (firsts s)
unfolding listed ret
faithful s =
    record {
      none = λ c. refl;
      ends = λ c e. ap (mapped step_of) (at_the_end c s c.at e);
      goes = λ c k n e. rw (turn_some c s c.at (omega arith), listed_more c.big s n c.at)
          (goes_on (λ c. c.left) (firsts s) (behind c) (listed c.big n s) k n (λ b. (omega arith, refl)) (argument c.big s c.at));
    }

module _ (s : List ℕ) (n : ℕ) (c : Cursor) where
  pub in_a_row : n ≤ c.left → walk (called s) (λ c. c.at) n c ≡ listed c.big n s c.at
  in_a_row = walks.in_a_row (faithful s) n c

  pub to_its_end : c.left ≤ n → walk (called s) (λ c. c.at) n c ≡ listed c.big c.left s c.at
  to_its_end = walks.to_its_end (faithful s) n c

  pub never_more : handed (called s) n c ≤ c.left
  never_more = walks.never_more (faithful s) n c

pub all_passed : (big : Bool) (s : List ℕ) (n at : ℕ) → arguments big n s at ≡ passed (listed big n s at)
unfolding arguments listed times ret
all_passed big s zero at = refl
all_passed big s (suc n) at = go (argument big s at) refl (all_passed big s n) ∙ ap passed (sym (listed_more big s n at))
  where
    go : (x : Ans Argument) → argument big s at ≡ x → ((b : ℕ) → times n (argument big) s b ≡ passed (listed big n s b))
        → (argument big >>= (λ a. times n (argument big))) s at ≡ passed (more (listed big n s) x)
    go (done a b) e next = then_done (argument big) _ s at e ∙ next b ∙ sym (mapped_twice (λ all. tt) (λ rest. a ∷ rest) (listed big n s b))
    go (need m) e next = then_need (argument big) _ s at e
    go (hickup r) e next = then_hickup (argument big) _ s at e
    go broken e next = then_broken (argument big) _ s at e
