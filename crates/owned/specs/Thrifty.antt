-- A need is never for bytes that were there.
use Rattle.std.specs.Prelude.{ℕ, ◌≤◌, ◌<◌, ◌≡◌, List, ◌++◌, length}
use Rattle.wire.specs.Answer.{Parser}
use Rattle.wire.specs.Answer.Ans.{done, need}
use Rattle.wire.specs.Lawful.{Lawful}

-- a rule waits only for bytes that its value takes: where it waits, and is done with more bytes, the value ends past the bytes that it had
abbrev pub Thrifty : {A : Type 0} → Parser A → Type 0
Thrifty {A} p = (s t : List ℕ) (at : ℕ) (a : A) (b n : ℕ) → at ≤ length s → p s at ≡ need n → p (s ++ t) at ≡ done a b → length s < b

-- and it keeps the laws of a rule
pub record Both {A : Type 0} (p : Parser A) : Type 0 where
  pub lawful : Lawful p
  pub thrifty : Thrifty p
