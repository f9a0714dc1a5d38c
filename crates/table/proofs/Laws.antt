-- The laws of `over`. Assumes nothing.
use Prim.Native.Nat.{ℕ, ◌+◌, ◌≤◌}
use mathlib.Core.Path.{◌≡◌, ◌∙◌}
use mathlib.Core.List.{List, [], ◌++◌, append_assoc}
use native.Mathlib.Nat.{add-zero}
use native.Mathlib.Omega.{arith}
use lib.ListN.{length, take, drop, length-append, length-drop, take-append-drop}
use lib.Seq.{sets, sets-eq, take_at, drop_at, drop-append-add, drop-drop, length-take-le}
use Rattle.table.specs.Over.{over}

module _ {A : Type 0} (l : List A) (a : ℕ) where
  pub over_none : over l a [] ≡ l
  unfolding over
  over_none = rw add-zero (take-append-drop a l)

  module _ (v : List A) (h : a + length v ≤ length l) where
    head : length (take a l ++ v) ≡ a + length v
    head = omega (arith, length-append (take a l) v, length-take-le a l (omega arith))

    pub over_length : length (over l a v) ≡ length l
    unfolding over
    over_length = omega (
      arith,
      length-append (take a l) (v ++ drop (a + length v) l),
      length-append v (drop (a + length v) l),
      length-drop (a + length v) l,
      length-take-le a l (omega arith),
    )

    -- what stands before the place stays, and so does what stands behind the new elements
    pub over_before : take a (over l a v) ≡ take a l
    unfolding over
    over_before = take_at (take a l) (v ++ drop (a + length v) l) a (length-take-le a l (omega arith))

    pub over_behind : drop (a + length v) (over l a v) ≡ drop (a + length v) l
    unfolding over
    over_behind = rw (← append_assoc (take a l) v (drop (a + length v) l)) (drop_at (take a l ++ v) (drop (a + length v) l) (a + length v) head)

    -- up to their end it is what stood before the place, and the new elements
    pub over_upto : take (a + length v) (over l a v) ≡ take a l ++ v
    unfolding over
    over_upto = rw (← append_assoc (take a l) v (drop (a + length v) l)) (take_at (take a l ++ v) (drop (a + length v) l) (a + length v) head)

    -- stores one after the other, as the code leaves them
    pub stores : sets l a v ≡ over l a v
    unfolding over
    stores = sets-eq v l a h ∙ append_assoc (take a l) v (drop (a + length v) l)

    -- one after another is both in a row
    pub over_over : (u : List A) → over (over l a v) (a + length v) u ≡ over l a (v ++ u)
    unfolding over
    over_over u =
        let r = drop (a + length v) l in
        let e : a + length v + length u ≡ length (take a l ++ v) + length u = omega (arith, head) in
        let g : a + length (v ++ u) ≡ a + length v + length u = omega (arith, length-append v u) in
        rw (g, ← append_assoc (take a l) v r, take_at (take a l ++ v) r _ head)
        (rw (e, drop-append-add (take a l ++ v) r (length u), ← e, drop-drop (length u) (a + length v) l) (simp append_assoc))
