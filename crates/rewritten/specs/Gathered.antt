-- What was read of a reader's bytes, where those are known.
use Rattle.std.specs.Prelude.{◌≡◌, ℕ, ◌≤◌, ◌⊎◌, List, Option, Result, Ok, Err, length, take, ⊤, IfSome}

-- xs are the buffer's first n bytes, or they fill the buffer and may be more
abbrev pub Held : List ℕ → ℕ → List ℕ → Type 0
Held buf n xs = (xs ≡ take n buf) ⊎ ((n ≡ length buf) × (length buf ≤ length xs))

abbrev pub Gathered : {E : Type 0} → Option (List ℕ) → List ℕ → Result ℕ E → Type 0
Gathered known buf (Ok n) = (n ≤ length buf) × IfSome known (Held buf n)
Gathered known buf (Err e) = ⊤
