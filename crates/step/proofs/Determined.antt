-- The contract fixes the answer. Assumes nothing.
use Prim.Native.Nat.{ℕ}
use mathlib.Core.Path.{◌≡◌, refl, sym, ap, ◌∙◌}
use Rattle.walk.specs.Walk.{Step, Wait, Take}
use Rattle.step.specs.Step.{step_of}
use Rattle.step.specs.declared.Heard.{Heard}

abbrev heard_by : Step ℕ ℕ → Heard
heard_by (Wait n) = Heard.Wait n
heard_by (Take k l i) = Heard.Take k l i

heard_back : (r : Heard) → heard_by (step_of r) ≡ r
heard_back (Heard.Wait n) = refl
heard_back (Heard.Take k l i) = refl

pub ask_determined : {r r' : Heard} {x : Step ℕ ℕ} → step_of r ≡ x → step_of r' ≡ x → r ≡ r'
ask_determined {r} {r'} e e' = sym (heard_back r) ∙ ap heard_by (e ∙ sym e') ∙ heard_back r'
