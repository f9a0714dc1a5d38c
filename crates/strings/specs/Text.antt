-- Strings of a size: document 01, "Strings" and "Needs".
use Rattle.std.specs.Prelude.{ℕ, zero, suc, ◌+◌, ◌-◌, ◌≤◌, ◌<◌, ◌≡◌, Bool, true, ◌&&◌, List, length, get_or, ltb, leb, eqb}
use Rattle.wire.specs.Answer.{Parser}
use Rattle.wire.specs.Answer.Ans.{done}
use Rattle.wire.specs.Parser.{asking, pick}
use Rattle.wire.specs.Run.{range}
use Rattle.wire.specs.declared.Ended.{Ended}
use Rattle.wire.specs.declared.Range.{Range}
use Rattle.wire.specs.declared.Text.{Text}
use Rattle.strings.specs.Utf8.{valid_up_to_of}

-- the content stops before the first zero byte or at the size: how many of the n bytes from a position it has
abbrev pub before0 : ℕ → List ℕ → ℕ → ℕ
before0 zero s at = 0
before0 (suc n) s at = pick (eqb (get_or s at 0) 0) 0 (suc (before0 n s (suc at)))

-- a letter is a byte from 1 to 7F
abbrev pub letter : ℕ → Bool
letter b = leb 1 b && leb b 0x7F

-- k of n bytes, and the first k from a position are letters
abbrev pub Letters : List ℕ → ℕ → ℕ → ℕ → Type 0
Letters s at n k = (k ≤ n) × ((i : ℕ) → i < k → letter (get_or s (at + i) 0) ≡ true)

-- the value is the content's longest valid UTF-8 prefix
unfoldable pub text_of : ℕ → List ℕ → ℕ → Range
text_of n s at = range at (valid_up_to_of (before0 n s at) s at)

-- why it ended: at bytes that are no UTF-8, where the value is shorter than the content; else at a zero byte, where the content is shorter than the
-- size; else at its size
unfoldable pub ended_of : ℕ → List ℕ → ℕ → Ended
ended_of n s at = pick (ltb (text_of n s at).len (before0 n s at)) Ended.Invalid (pick (ltb (before0 n s at) n) Ended.Zero Ended.Size)

-- both: where the value stands, and why it ended
unfoldable pub ended_text : ℕ → List ℕ → ℕ → Text
ended_text n s at = record { place = text_of n s at; ended = ended_of n s at }

-- a string of size n with fewer than n bytes left needs 1 if no zero byte is among them, else n less what is left
abbrev pub text_need : ℕ → List ℕ → ℕ → ℕ
text_need n s at = pick (ltb (before0 (length s - at) s at) (length s - at)) (n - (length s - at)) 1

-- a string of size n; the size is used up all the same
unfoldable pub text : ℕ → Parser Text
text n = asking n (text_need n) (λ s at. done (ended_text n s at) (at + n))

-- an identifier is one of size 4
unfoldable pub identified : Parser Text
identified = text 4

-- how many bytes its value has; none where its four bytes are not there
unfoldable pub id_length_of : List ℕ → ℕ → ℕ
id_length_of s at = pick (leb 4 (length s - at)) (text_of 4 s at).len 0
