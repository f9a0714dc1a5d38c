-- What a need of the confined reading is: there is none that the arguments give.
use Rattle.std.specs.Prelude.{ℕ, ◌≡◌, Bool, List}
use Rattle.wire.specs.Answer.Ans.{need}
use Rattle.worth.specs.Opening.{Opening, opening}
use Rattle.worth.specs.Need.{Short}

-- that of steps 2 to 4, which read the headers; or step 5's
pub data Lacks (stored : Bool) (s : List ℕ) (n : ℕ) : Type 0 where
  early : opening stored s 0 ≡ need n → Lacks stored s n
  short : (o : Opening) → Short stored s n o → Lacks stored s n
