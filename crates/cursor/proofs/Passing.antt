-- A list of arguments that are passed: what the loop stands on where one of them can't be read.
use Prim.Native.Nat.{ℕ, ◌-◌, ◌≤◌, ◌<◌}
use native.Mathlib.Omega.{arith}
use mathlib.Core.Path.{◌≡◌, sym, ◌∙◌}
use mathlib.Core.Bool.{Bool}
use mathlib.Core.List.{List}
use Rattle.std.specs.Prelude.{Err}
use Rattle.wire.specs.Answer.{Parser}
use Rattle.wire.specs.Answer.Ans.{need}
use Rattle.wire.specs.Answers.{stop_ans, passed_ans}
use Rattle.wire.specs.Parser.{times}
use Rattle.wire.specs.declared.Stop.{Stop}
use Rattle.wire.proofs.Step.{times_need, times_hickup}
use Rattle.skim.specs.Skim.{passed}
use Rattle.wire.proofs.Reading.{reading}
use Rattle.arguments.specs.Argument.{argument}
use Rattle.skim.proofs.Same.{was_need, was_hickup}
use Rattle.cursor.specs.Cursor.{arguments, turn}
use Rattle.cursor.specs.Raw.{first_raw}
use Rattle.cursor.specs.declared.Cursor.{Cursor}
use Rattle.cursor.proofs.Raw.{raw_need}

-- an argument that stops ends the list
pub stops_there : {A : Type 0} (p : Parser A) (s : List ℕ) (at n i : ℕ) → i < n → (e : Stop) → passed (p s at) ≡ passed_ans (Err e) → times (n - i) p s at ≡ stop_ans {A = Unit} (Err e)
stops_there p s at n i h (Stop.Need m) q = times_need p s at n i h (was_need _ _ q)
stops_there p s at n i h (Stop.Hickup r) q = times_hickup p s at n i h (was_hickup _ _ q)

-- ---- a need by itself, where the code tells it apart: must-fail/first.edit goes by these
module _ (big : Bool) (s : List ℕ) (at count pos i : ℕ) (whole : arguments big count s at ≡ times (count - i) (argument big) s pos) (h : i < count) where
  pub pass_need : (m : ℕ) → need m ≡ passed (argument big s pos) → need m ≡ arguments big count s at
  pass_need m e = sym (whole ∙ times_need _ s pos count i h (was_need _ _ (sym e)))

module _ (c : Cursor) (s : List ℕ) (at : ℕ) (h : 1 ≤ c.left) where
  pub turn_need : (m : ℕ) → need m ≡ argument c.big s at → need m ≡ turn c s at
  unfolding turn
  turn_need m e = search (reading, e, h) depth 20

module _ (big : Bool) (s : List ℕ) (pos l m : ℕ) where
  pub raw_turn_need : 1 ≤ l → need m ≡ argument big s pos → need m ≡ first_raw big l s pos
  raw_turn_need h e = sym (raw_need big s pos l (l - 1) (omega (arith, h)) (sym e))
