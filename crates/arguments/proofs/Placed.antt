-- Where an argument stands: its record starts at the position that was asked, and ends where the rule goes on.
-- Assumes nothing.
use Prim.Native.Nat.{ℕ}
use mathlib.Core.Path.{◌≡◌, refl, sym, ◌∙◌, subst}
use mathlib.Core.Bool.{Bool}
use mathlib.Core.List.{List}
use Rattle.wire.specs.Answer.{Ans, Parser}
use Rattle.wire.specs.Answer.Ans.{done, need, hickup, broken}
use Rattle.wire.specs.Parser.{◌>>=◌, here}
use Rattle.wire.proofs.Step.{then_done, then_need, then_hickup, then_broken, here_is, ret_is}
use Rattle.dlt.specs.declared.TypeInfoKind.{TypeInfoKind}
use Rattle.dlt.specs.declared.TypeInfo.{TypeInfo}
use Rattle.dlt.specs.declared.Value.{Value}
use Rattle.dlt.specs.declared.Argument.{Argument}
use Rattle.arguments.specs.Argument.{type_info_of, made, plain, scaled, boolean, sized, kinded, argument}
use Rattle.std.specs.Prelude.{Option}
use Rattle.dlt.specs.declared.FixedPoint.{FixedPoint}
use Rattle.wire.specs.declared.Text.{Text}

-- a value of this answer has Q
abbrev pub Holds : {A : Type 0} → (A → ℕ → Type 0) → Ans A → Type 0
Holds Q (done a b) = Q a b
Holds Q (need n) = Unit
Holds Q (hickup r) = Unit
Holds Q broken = Unit

-- every value of a rule has Q
pub record Gives {A : Type 0} (Q : A → ℕ → Type 0) (p : Parser A) : Type 0 where
  pub holds : (s : List ℕ) (at : ℕ) → Holds Q (p s at)

pub then_gives : {A B : Type 0} (Q : B → ℕ → Type 0) (p : Parser A) (k : A → Parser B) → ((a : A) → Gives Q (k a)) → Gives Q (p >>= k)
then_gives {A} Q p k h = record { holds = λ s at. go s at (p s at) refl }
  where
    go : (s : List ℕ) (at : ℕ) (x : Ans A) → p s at ≡ x → Holds Q ((p >>= k) s at)
    go s at (done a b) e = rw (then_done p k s at e) ((h a).holds s b)
    go s at (need n) e = rw (then_need p k s at e) tt
    go s at (hickup r) e = rw (then_hickup p k s at e) tt
    go s at broken e = rw (then_broken p k s at e) tt

abbrev Stands : ℕ → Argument → ℕ → Type 0
Stands start a b = (a.start ≡ start) × (a.end ≡ b)

module _ (start : ℕ) (info : TypeInfo) where
  made_gives : (name unit : Option Text) (point : Option FixedPoint) (value : Value) → Gives (Stands start) (made start info name unit point value)
  made_gives name unit point value =
      record { holds = λ s at. rw (then_done here _ s at (here_is s at), ret_is _ s at) (refl, refl) }

  kinded_gives : (big : Bool) (k : TypeInfoKind) → Gives (Stands start) (kinded big start info k)
  unfolding kinded plain scaled boolean sized
  kinded_gives big (TypeInfoKind.Signed w) = search (then_gives, made_gives) depth 20
  kinded_gives big (TypeInfoKind.SignedFixedPoint w) = search (then_gives, made_gives) depth 20
  kinded_gives big (TypeInfoKind.Unsigned w) = search (then_gives, made_gives) depth 20
  kinded_gives big (TypeInfoKind.UnsignedFixedPoint w) = search (then_gives, made_gives) depth 20
  kinded_gives big (TypeInfoKind.Float w) = search (then_gives, made_gives) depth 20
  kinded_gives big TypeInfoKind.Raw = search (then_gives, made_gives) depth 20
  kinded_gives big TypeInfoKind.Bool = search (then_gives, made_gives) depth 20
  kinded_gives big TypeInfoKind.StringType = search (then_gives, made_gives) depth 20

pub placed : (big : Bool) (s : List ℕ) (at : ℕ) {a : Argument} {b : ℕ} → argument big s at ≡ done a b → (a.start ≡ at) × (a.end ≡ b)
unfolding argument
placed big s at e =
    subst (Holds (Stands at)) (sym (then_done here _ s at (here_is s at)) ∙ e)
    ((then_gives (Stands at) (type_info_of big) _ (λ info. kinded_gives at info big info.kind)).holds s at)
