-- Valid UTF-8 is a matter of the bytes: the same bytes in another list, or at another position of it, are as valid.
use Prim.Native.Nat.{ℕ, suc, ◌+◌, ◌≤◌, ◌<◌}
use native.Mathlib.Omega.{arith}
use native.Mathlib.Nat.{add-zero}
use mathlib.Core.Path.{◌≡◌, refl, sym, ap, ap₂, ◌∙◌}
use mathlib.Core.Bool.{Bool, true, false, ◌&&◌}
use mathlib.Core.List.{List, [], ◌∷◌}
use lib.ListN.{length, get_or}
use lib.Dec.{leb}
use borrow.Author.Tests.{leb-true}
use Rattle.wire.specs.Parser.{pick}
use Rattle.strings.specs.Utf8.{Span, Row, table, inside, fits, formed, among, sequence, ValidUtf8}
use Rattle.strings.specs.Utf8.ValidUtf8.{empty, more}

-- the n bytes of s at a position are those of t at another
abbrev pub Same : List ℕ → ℕ → List ℕ → ℕ → ℕ → Type 0
Same s i t j n = (k : ℕ) → k < n → get_or s (i + k) 0 ≡ get_or t (j + k) 0

module _ (s : List ℕ) (i : ℕ) (t : List ℕ) (j n : ℕ) (e : Same s i t j n) where
  fits_moved : (rs : List Span) (k : ℕ) → k + length rs ≤ n → fits rs s i k ≡ fits rs t j k
  fits_moved [] k h = refl
  fits_moved (r ∷ rs) k h =
      ap₂ (λ (a : ℕ) (b : Bool). inside r a && b) (e k (omega arith)) (fits_moved rs (suc k) (omega arith))

  formed_moved : (rest : List Span) → formed rest n s i ≡ formed rest n t j
  unfolding formed
  formed_moved rest = by (leb (suc (length rest)) n) refl
    where
      by : (b : Bool) → leb (suc (length rest)) n ≡ b → pick (b && fits rest s i 1) (suc (length rest)) 0 ≡ pick (b && fits rest t j 1) (suc (length rest)) 0
      by true q =
          let l : suc (length rest) ≤ n = leb-true _ _ q in
          ap (λ (f : Bool). pick f (suc (length rest)) 0) (fits_moved rest 1 (omega arith))
      by false q = refl

  among_moved : (rs : List Row) → get_or s i 0 ≡ get_or t j 0 → among rs n s i ≡ among rs n t j
  unfolding among
  among_moved [] q = refl
  among_moved (r ∷ rs) q = rw (q, formed_moved r.rest, among_moved rs q)

  sequence_moved : 0 < n → sequence n s i ≡ sequence n t j
  unfolding sequence
  sequence_moved p = among_moved table (rw (add-zero i, add-zero j) at (e 0 p))

moved_by : (s : List ℕ) {i n : ℕ} (t : List ℕ) (j : ℕ) → Same s i t j n → ValidUtf8 s i n → ValidUtf8 t j n
moved_by s t j e empty = empty
moved_by s {i} t j e (more {n = n} w p q v) =
    let near : Same s i t j w = λ k h. e k (omega arith) in
    let far : Same s (i + w) t (j + w) n = λ k h.
    let a : i + w + k ≡ i + (w + k) = omega arith in
    let b : j + w + k ≡ j + (w + k) = omega arith in
    ap (λ (m : ℕ). get_or s m 0) a ∙ e (w + k) (omega arith) ∙ sym (ap (λ (m : ℕ). get_or t m 0) b)
    in
    more w p (sym (sequence_moved s i t j w near p) ∙ q) (moved_by s t (j + w) far v)

pub valid_moved : {i n : ℕ} (s t : List ℕ) (j : ℕ) → Same s i t j n → ValidUtf8 s i n → ValidUtf8 t j n
valid_moved s t j e v = moved_by s t j e v
