-- What was read of a reader's bytes, where those are known.
use Rattle.std.specs.Prelude.{◌≡◌, ℕ, ◌<◌, ◌≤◌, List, Option, Some, None, Result, Ok, Err, length, take, ⊤, IfSome}
use Rattle.std.specs.Io.KnownBytes.{IsAtEnd}

-- all of them stand at the front of the buffer, or there are more than it holds
abbrev pub Gathered : {E : Type 0} → Option (List ℕ) → List ℕ → Result (Option ℕ) E → Type 0
Gathered known buf (Ok (Some n)) = (n ≤ length buf) × IfSome known (λ xs. xs ≡ take n buf)
Gathered known buf (Ok None) = IfSome known (λ xs. length buf < length xs)
Gathered known buf (Err e) = ⊤

-- of a reader that has given n bytes: it has no more, or it has more
abbrev pub Probed : {E : Type 0} → Option (List ℕ) → ℕ → Result (Option ℕ) E → Type 0
Probed known n (Ok (Some m)) = (m ≡ n) × IsAtEnd known
Probed known n (Ok None) = IfSome known (λ xs. 0 < length xs)
Probed known n (Err e) = ⊤
