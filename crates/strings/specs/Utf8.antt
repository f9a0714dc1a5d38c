-- Valid UTF-8, as the Unicode standard defines it: table 3-7, "Well-Formed UTF-8 Byte Sequences". No overlong forms, no surrogates,
-- nothing above U+10FFFF: what Rust's `str::from_utf8` accepts.
use Rattle.std.specs.Prelude.{ℕ, zero, suc, ◌+◌, ◌-◌, ◌<◌, ◌≡◌, Bool, true, ◌&&◌, List, [], ◌∷◌, length, get_or, leb, eqb}
use Rattle.wire.specs.Parser.{pick}

-- the bytes from one to another
pub record Span : Type 0 where
  pub from : ℕ
  pub to : ℕ

abbrev pub span : ℕ → ℕ → Span
span a b = record { from = a; to = b }

abbrev pub inside : Span → ℕ → Bool
inside r b = leb r.from b && leb b r.to

-- a row of the table: the lead bytes, and a span for each byte that follows
pub record Row : Type 0 where
  pub lead : Span
  pub rest : List Span

abbrev pub row : Span → List Span → Row
row a r = record { lead = a; rest = r }

-- 80..BF
abbrev pub tail : Span
tail = span 0x80 0xBF

-- the table, row by row                        code points
abbrev pub table : List Row
table =
    row (span 0x00 0x7F) []  --  U+0000..U+007F
    ∷ row (span 0xC2 0xDF) (tail ∷ [])  --  U+0080..U+07FF
    ∷ row (span 0xE0 0xE0) (span 0xA0 0xBF ∷ tail ∷ [])  --  U+0800..U+0FFF
    ∷ row (span 0xE1 0xEC) (tail ∷ tail ∷ [])  --  U+1000..U+CFFF
    ∷ row (span 0xED 0xED) (span 0x80 0x9F ∷ tail ∷ [])  --  U+D000..U+D7FF
    ∷ row (span 0xEE 0xEF) (tail ∷ tail ∷ [])  --  U+E000..U+FFFF
    ∷ row (span 0xF0 0xF0) (span 0x90 0xBF ∷ tail ∷ tail ∷ [])  --  U+10000..U+3FFFF
    ∷ row (span 0xF1 0xF3) (tail ∷ tail ∷ tail ∷ [])  --  U+40000..U+FFFFF
    ∷ row (span 0xF4 0xF4) (span 0x80 0x8F ∷ tail ∷ tail ∷ [])  --  U+100000..U+10FFFF
    ∷ []

-- the k-th byte behind a position and those after it stand in these spans, one each
abbrev pub fits : List Span → List ℕ → ℕ → ℕ → Bool
fits [] s at k = true
fits (r ∷ rs) s at k = inside r (get_or s (at + k) 0) && fits rs s at (suc k)

-- the length of a sequence whose lead byte stands at a position and whose other bytes stand in these spans; 0 where n bytes hold none
unfoldable pub formed : List Span → ℕ → List ℕ → ℕ → ℕ
formed rest n s at = pick (leb (suc (length rest)) n && fits rest s at 1) (suc (length rest)) 0

-- by the row that the lead byte is in
unfoldable pub among : List Row → ℕ → List ℕ → ℕ → ℕ
among [] n s at = 0
among (r ∷ rs) n s at = pick (inside r.lead (get_or s at 0)) (formed r.rest n s at) (among rs n s at)

-- the length of the well-formed sequence at a position, within n bytes; 0 where there is none
unfoldable pub sequence : ℕ → List ℕ → ℕ → ℕ
sequence n s at = among table n s at

-- w bytes, and what f has behind them; nothing where w is 0
abbrev pub onward : (ℕ → ℕ) → ℕ → ℕ
onward f w = pick (eqb w 0) 0 (w + f w)

-- the length of as many well-formed sequences in a row as there are, but at most m of them, within n bytes
unfoldable pub up_to : ℕ → ℕ → List ℕ → ℕ → ℕ
up_to zero n s at = 0
up_to (suc m) n s at = onward (λ w. up_to m (n - w) s (at + w)) (sequence n s at)

-- the length of the longest valid UTF-8 prefix of n bytes, which hold at most n sequences
unfoldable pub valid_up_to_of : ℕ → List ℕ → ℕ → ℕ
valid_up_to_of n s at = up_to n n s at

-- valid UTF-8 itself: the n bytes at a position are well-formed sequences, end to end
pub data ValidUtf8 (s : List ℕ) : ℕ → ℕ → Type 0 where
  empty : {at : ℕ} → ValidUtf8 s at 0
  more : {at n : ℕ} (w : ℕ) → 0 < w → sequence w s at ≡ w → ValidUtf8 s (at + w) n → ValidUtf8 s at (w + n)

abbrev pub least : ℕ → ℕ → ℕ
least a b = pick (leb a b) a b
