-- Laws of a block of places in which a mark doesn't stand, over any mark p of four bytes.
--     picked, not-not           a test as the last of several, and one whose opposite is false
--     stands-mark               whether p stands at a place, by the four bytes there
--     ends-not                  it doesn't without its last two
--     joined-hit, joined-miss   whether four bytes are a mark, by the numbers that they and the mark make
--     mark-hit, mark-miss       what `find` gives at a place, by the four bytes there
--     none-next                 one place more in which p doesn't stand
--     part-found, part_none     what a search of a front part of the bytes tells of them all
-- Assumes nothing.
use Prim.Native.Nat.{ℕ, suc, ◌+◌, ◌-◌, ◌*◌, ◌≤◌, ◌<◌}
use native.Mathlib.Numerals.{add-one}
use native.Mathlib.Omega.{arith}
use mathlib.Core.Path.{◌≡◌, refl, sym, ap, ◌∙◌}
use mathlib.Core.List.{List, [], ◌∷◌}
use mathlib.Core.Bool.{Bool, true, false, not}
use lib.ListN.{length, get_or, take, drop, length-take, take-append-drop}
use lib.Dec.{eqb}
use borrow.Author.Tests.{eqb-true, eq-eqb}
use Rattle.wire.specs.Parser.{pick}
use Rattle.mark.specs.First.{stands_at_of, places, find}
use Rattle.mark.specs.Block.{is_end_of, is_mark}
use Rattle.mark.proofs.Laws.{hit, miss, find_stable, none_skips}
use Rattle.std.specs.Prelude.{Some, None}

-- what holds of any four bytes holds of a mark that has four
of_four : (P : List ℕ → Type 0) → ((w x y z : ℕ) → P (w ∷ x ∷ y ∷ z ∷ [])) → (p : List ℕ) → length p ≡ 4 → P p
of_four P h [] f = absurd (omega arith)
of_four P h (w ∷ []) f = absurd (omega arith)
of_four P h (w ∷ x ∷ []) f = absurd (omega arith)
of_four P h (w ∷ x ∷ y ∷ []) f = absurd (omega arith)
of_four P h (w ∷ x ∷ y ∷ z ∷ []) f = h w x y z
of_four P h (w ∷ x ∷ y ∷ z ∷ v ∷ p) f = absurd (omega arith)

-- ---- four bytes
pub picked : (t : Bool) → t ≡ pick t true false
picked true = refl
picked false = refl

pub not_not : (t : Bool) → not t ≡ false → t ≡ true
not_not true e = refl
not_not false e = sym e

stands_made : (s : List ℕ) (i j k l : ℕ) → j ≡ suc i → k ≡ suc j → l ≡ suc k → (w x y z : ℕ)
    → stands_at_of (w ∷ x ∷ y ∷ z ∷ []) s i ≡ is_mark (w ∷ x ∷ y ∷ z ∷ []) (get_or s i 0) (get_or s j 0) (get_or s k 0) (get_or s l 0)
unfolding stands_at_of
stands_made s i j k l p q r w x y z = rw (r, q, p)

-- the four bytes at a place tell whether the mark stands there
pub stands_mark : (p s : List ℕ) (i : ℕ) → length p ≡ 4 → stands_at_of p s i ≡ is_mark p (get_or s i 0) (get_or s (i + 1) 0) (get_or s (i + 2) 0) (get_or s (i + 3) 0)
stands_mark p s i f =
    of_four
    (λ p. stands_at_of p s i ≡ is_mark p (get_or s i 0) (get_or s (i + 1) 0) (get_or s (i + 2) 0) (get_or s (i + 3) 0))
    (stands_made s i (i + 1) (i + 2) (i + 3) (omega arith) (omega arith) (omega arith))
    p
    f

ends_made : (a b c d : ℕ) (w x y z : ℕ) → is_end_of (w ∷ x ∷ y ∷ z ∷ []) c d ≡ false → is_mark (w ∷ x ∷ y ∷ z ∷ []) a b c d ≡ false
unfolding stands_at_of
ends_made a b c d w x y z e = by (eqb a w) (eqb b x) e
  where
    by : (t u : Bool) {f : Bool} → f ≡ false → pick t (pick u f false) false ≡ false
    by true true e = e
    by true false e = refl
    by false u e = refl

-- without its last two bytes it doesn't stand
pub ends_not : (p : List ℕ) (a b c d : ℕ) → length p ≡ 4 → is_end_of p c d ≡ false → is_mark p a b c d ≡ false
ends_not p a b c d f = of_four (λ p. is_end_of p c d ≡ false → is_mark p a b c d ≡ false) (ends_made a b c d) p f

-- four bytes are a mark where the number that they make is the mark's
module _ (a b c d w x y z : ℕ) where
  pub joined_hit : a < 256 → b < 256 → c < 256 → d < 256 → w < 256 → x < 256 → y < 256 → z < 256
      → (d * 256 + c) * 65536 + (b * 256 + a) ≡ (z * 256 + y) * 65536 + (x * 256 + w) → is_mark (w ∷ x ∷ y ∷ z ∷ []) a b c d ≡ true
  unfolding stands_at_of
  joined_hit ea eb ec ed ew ex ey ez q = rw (eq-eqb a w (omega arith), eq-eqb b x (omega arith), eq-eqb c y (omega arith), eq-eqb d z (omega arith))

  pub joined_miss : ((d * 256 + c) * 65536 + (b * 256 + a) ≡ (z * 256 + y) * 65536 + (x * 256 + w) → ⊥) → is_mark (w ∷ x ∷ y ∷ z ∷ []) a b c d ≡ false
  unfolding stands_at_of
  joined_miss n = by (eqb a w) (eqb b x) (eqb c y) (eqb d z) refl refl refl refl
    where
      by : (t u v r : Bool) → eqb a w ≡ t → eqb b x ≡ u → eqb c y ≡ v → eqb d z ≡ r → pick t (pick u (pick v (pick r true false) false) false) false ≡ false
      by true true true true e f g h = absurd (n (omega (arith, eqb-true a w e, eqb-true b x f, eqb-true c y g, eqb-true d z h)))
      by true true true false e f g h = refl
      by true true false r e f g h = refl
      by true false v r e f g h = refl
      by false u v r e f g h = refl

-- ---- `find` at a place, by the four bytes there
module _ (p s : List ℕ) (i : ℕ) (f : length p ≡ 4) (l : i + 4 ≤ length s) where
  pub mark_hit : is_mark p (get_or s i 0) (get_or s (i + 1) 0) (get_or s (i + 2) 0) (get_or s (i + 3) 0) ≡ true → find p s i ≡ Some i
  mark_hit e = hit p s i (omega arith) (omega arith) (stands_mark p s i f ∙ e)

  pub mark_miss : is_mark p (get_or s i 0) (get_or s (i + 1) 0) (get_or s (i + 2) 0) (get_or s (i + 3) 0) ≡ false → find p s i ≡ find p s (i + 1)
  mark_miss e = rw add-one (miss p s i (omega arith) (omega arith) (stands_mark p s i f ∙ e))

-- one place more in which the mark doesn't stand: a test that is false there, and what was said of the places before it
pub none_next : (p s : List ℕ) (at i k : ℕ) (none here : Bool) → length p ≡ 4 → i ≡ at + k → i + 4 ≤ length s
    → (here ≡ false → is_mark p (get_or s i 0) (get_or s (i + 1) 0) (get_or s (i + 2) 0) (get_or s (i + 3) 0) ≡ false)
    → (none ≡ true → find p s at ≡ find p s (at + k))
    → pick here false none ≡ true → find p s at ≡ find p s (at + (k + 1))
none_next p s at i k none true f q l h b e = let z : ◌≡◌ {A = ℕ} 0 1 = cc in absurd (omega arith)
none_next p s at i k none false f q l h b e =
    let r : at + (k + 1) ≡ i + 1 = omega arith in
    b e ∙ ap (λ (n : ℕ). find p s n) (sym q) ∙ mark_miss p s i f l (h refl) ∙ ap (λ (n : ℕ). find p s n) (sym r)

-- ---- what a search of the first e bytes tells of them all
module _ (p s : List ℕ) (e at : ℕ) (f : length p ≡ 4) where
  pub part_found : (k : ℕ) → find p (take e s) at ≡ Some k → find p s at ≡ Some k
  part_found k h = rw (take-append-drop e s) at (find_stable p (take e s) (drop e s) at k (omega arith) h)

  pub part_none : at + 4 ≤ e → e ≤ length s → find p (take e s) at ≡ None → find p s at ≡ find p s (e - 3)
  part_none l m h =
      let w : length (take e s) ≡ e = simp length-take (omega arith) in
      let q : at + places p (take e s) at ≡ e - 3 = omega arith in
      rw (take-append-drop e s, q) at (none_skips p (take e s) (drop e s) at (omega arith) (omega arith) h)
