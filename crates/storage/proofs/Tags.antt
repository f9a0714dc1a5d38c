-- A tag, byte by byte: q is the tag, and k bytes of it were passed.
use Prim.Native.Nat.{ℕ, suc, ◌+◌, ◌-◌, ◌≤◌, ◌<◌, zero-le}
use native.Mathlib.Omega.{arith}
use native.Mathlib.Numerals.{add-one}
use native.Mathlib.Nat.{add-zero}
use mathlib.Core.Path.{◌≡◌, sym, ap, ◌∙◌}
use mathlib.Core.List.{List}
use lib.ListN.{length, get_or, take, drop, length-take, length-drop, drop_of_length-le}
use lib.Seq.{drop-cons, get_or-drop, get_or-take}
use borrow.Author.Tests.{le-leb, lt-leb, eq-eqb, ne_eqb}
use Rattle.wire.specs.Answer.Ans.{done, need, hickup}
use Rattle.mark.specs.First.{pattern}
use Rattle.storage.specs.Consume.{tagged}

module _ (q s : List ℕ) (at k : ℕ) where
  pub tag_step : k < length q → k < length s - at → get_or s (at + k) 0 ≡ get_or q k 0 → tagged (drop k q) s (at + k) ≡ tagged (drop (k + 1) q) s (at + (k + 1))
  unfolding tagged
  tag_step h l e =
      let n : at + (k + 1) ≡ suc (at + k) = omega arith in
      rw (drop-cons q k 0, le-leb 1 (length s - (at + k)) (omega arith), eq-eqb (get_or s (at + k) 0) (get_or q k 0) e, n, add-one)

  pub tag_short : k < length q → length s - at ≤ k → tagged (drop k q) s (at + k) ≡ need (length q - k)
  unfolding tagged
  tag_short h l =
      let n : suc (length (drop (suc k) q)) ≡ length q - k = simp length-drop (omega arith) in
      rw (drop-cons q k 0, lt-leb 1 (length s - (at + k)) (omega arith)) (ap need n)

  pub tag_differs : k < length q → k < length s - at → (get_or s (at + k) 0 ≡ get_or q k 0 → ⊥) → tagged (drop k q) s (at + k) ≡ hickup 4
  unfolding tagged
  tag_differs h l e = rw (drop-cons q k 0, le-leb 1 (length s - (at + k)) (omega arith), ne_eqb (get_or s (at + k) 0) (get_or q k 0) e)

  pub tag_end : length q ≤ k → tagged (drop k q) s (at + k) ≡ done tt (at + k)
  unfolding tagged
  tag_end h = rw (drop_of_length-le q h)

-- a part of the pattern
abbrev pub part : ℕ → ℕ → List ℕ
part first size = take size (drop first pattern)

-- the loop: k bytes of the part were passed, and stand
abbrev pub Passed : ℕ → ℕ → List ℕ → ℕ → ℕ → Type 0
Passed first size s at k = (k ≤ size) × (tagged (part first size) s at ≡ tagged (drop k (part first size)) s (at + k))

module _ (first size : ℕ) (h : first + size ≤ 4) where
  pub part_length : length (part first size) ≡ size
  part_length = simp (length-take, length-drop) (omega arith)

  pub part_at : (k : ℕ) → k < size → get_or (part first size) k 0 ≡ get_or pattern (first + k) 0
  part_at k l = rw (get_or-take, get_or-drop)

  module _ (s : List ℕ) (at : ℕ) where
    pub passed_none : Passed first size s at 0
    passed_none = (zero-le, rw add-zero)

    module _ (k rest : ℕ) (is-left : rest ≡ length s - at) (p : Passed first size s at k) where
      length_is : length (part first size) ≡ size
      length_is = part_length

      pub passed_short : k < size → rest ≤ k → need (size - k) ≡ tagged (part first size) s at
      passed_short l m = sym (p.1 ∙ tag_short (part first size) s at k (rw length_is l) (rw (← is-left) m) ∙ ap (λ (n : ℕ). need (n - k)) length_is)

      pub passed_differs : k < size → k < rest → (get_or s (at + k) 0 ≡ get_or pattern (first + k) 0 → ⊥) → hickup 4 ≡ tagged (part first size) s at
      passed_differs l m e = sym (p.1 ∙ tag_differs (part first size) s at k (rw length_is l) (rw (← is-left) m) (rw (part_at k l) e))

      pub passed_more : k < size → k < rest → get_or s (at + k) 0 ≡ get_or pattern (first + k) 0 → Passed first size s at (k + 1)
      passed_more l m e = (omega arith, p.1 ∙ tag_step (part first size) s at k (rw length_is l) (rw (← is-left) m) (rw (part_at k l) e))

      pub passed_all : size ≤ k → done tt (at + size) ≡ tagged (part first size) s at
      passed_all l =
          let z : k ≡ size = omega (arith, p.0) in
          sym (p.1 ∙ tag_end (part first size) s at k (rw length_is l) ∙ ap (λ (n : ℕ). done tt (at + n)) z)
