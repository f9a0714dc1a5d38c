-- What holds of `dlt_consume_msg` in the place of the laws: an answer other than Incomplete stays with more bytes, and a value ends within the
-- bytes. What doesn't hold is that fewer bytes than the need leave it Incomplete: `44` needs 2, and `44 58` is Hickup 4.
use Rattle.std.specs.Prelude.{ℕ, ◌≤◌, ◌≡◌, List, ◌++◌, length}
use Rattle.wire.specs.Answer.{Ans, Parser}
use Rattle.wire.specs.Answer.Ans.{done, need, hickup, broken}

-- the first answer, and the answer with more bytes
abbrev pub Stays : {A : Type 0} → Ans A → Ans A → Type 0
Stays (done a b) y = y ≡ done a b
Stays (need n) y = Unit
Stays (hickup r) y = y ≡ hickup r
Stays broken y = y ≡ broken

abbrev pub Ends : {A : Type 0} → ℕ → Ans A → Type 0
Ends len (done a b) = b ≤ len
Ends len (need n) = Unit
Ends len (hickup r) = Unit
Ends len broken = Unit

pub record Settled {A : Type 0} (p : Parser A) : Type 0 where
  pub stays : (s t : List ℕ) (at : ℕ) → at ≤ length s → Stays (p s at) (p (s ++ t) at)
  pub ends : (s : List ℕ) (at : ℕ) → at ≤ length s → Ends (length s) (p s at)
