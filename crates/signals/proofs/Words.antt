-- The loop over the words, at the code's numbers: i of them are used up, and the next signal stands at a position.
use Prim.Native.Nat.{ℕ, suc, ◌+◌, ◌≤◌, ◌<◌}
use native.Mathlib.Omega.{arith}
use mathlib.Core.Path.{◌≡◌, sym, ap, ◌∙◌}
use mathlib.Core.Bool.{Bool}
use mathlib.Core.List.{List}
use lib.ListN.{length, get_or, drop, drop_of_length-le}
use lib.Seq.{drop-cons}
use Rattle.wire.specs.Answer.Ans.{done, hickup}
use Rattle.wire.specs.Parser.{◌>>=◌}
use Rattle.wire.proofs.Step.{then_done, then_hickup, ret_is}
use Rattle.dlt.specs.declared.Argument.{Argument}
use Rattle.signals.specs.Signal.{signal}
use Rattle.signals.specs.Signals.{signals, constructed}

module _ (big : Bool) (words s : List ℕ) (at i : ℕ) where
  first : i < length words → signals big (drop i words) s at ≡ (signal big (get_or words i 0) >>= (λ a. signals big (drop (suc i) words))) s at
  unfolding signals
  first h = ap (λ (l : List ℕ). signals big l s at) (drop-cons words i 0 h)

  pub words_next : {a : Argument} {b : ℕ} → i < length words → signal big (get_or words i 0) s at ≡ done a b → signals big (drop i words) s at ≡ signals big (drop (i + 1) words) s b
  words_next {b = b} h e =
      let l : suc i ≡ i + 1 = omega arith in
      first h ∙ then_done _ _ s at e ∙ ap (λ (k : ℕ). signals big (drop k words) s b) l

  -- the whole is what is left of it
  module _ (whole : signals big words s 0 ≡ signals big (drop i words) s at) where
    pub words_hickup : {r : ℕ} → i < length words → signal big (get_or words i 0) s at ≡ hickup r → hickup r ≡ constructed big words s 0
    unfolding constructed
    words_hickup h e = sym (then_hickup _ _ s 0 (whole ∙ first h ∙ then_hickup _ _ s at e))

    pub words_done : length words ≤ i → done (length words) at ≡ constructed big words s 0
    unfolding constructed signals
    words_done h =
        let z : signals big (drop i words) s at ≡ done tt at = ap (λ (l : List ℕ). signals big l s at) (drop_of_length-le words h) ∙ ret_is tt s at in
        sym (then_done _ _ s 0 (whole ∙ z) ∙ ret_is _ s at)
