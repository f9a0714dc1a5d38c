-- `strings::letters` meets its contract: the loop's invariant is `Letters` itself.
use Prim.Native.Nat.{zero-le}
use native.Mathlib.Nat.{not-suc-le-zero}
use Rattle.strings.proofs.Strings.{letters_on}
use Rattle.strings.proofs.letters.Goals as goal

pub loop-k-init : goal.loop-k-init
loop-k-init c = (zero-le, λ i h. absurd (not-suc-le-zero h))

pub loop-k-preserved : goal.loop-k-preserved
loop-k-preserved c = search letters_on depth 20
