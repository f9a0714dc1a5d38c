-- What a glance tells of the message rule. Assumes nothing.
use Prim.Native.Nat.{ℕ, ◌+◌, ◌-◌, ◌≤◌, ◌<◌}
use native.Mathlib.Omega.{arith}
use mathlib.Core.Path.{◌≡◌, refl, sym, ◌∙◌, subst}
use mathlib.Core.Bool.{Bool, true, false}
use mathlib.Core.List.{List}
use lib.ListN.{length}
use lib.Dec.{leb}
use borrow.Author.Tests.{leb-true, leb-false}
use native.Mathlib.Nat.{sub-zero}
use Rattle.wire.specs.Answer.Ans.{done, need, hickup}
use Rattle.wire.specs.Parser.{pick, follow, choose, ◌>>=◌}
use Rattle.mark.specs.First.{pattern, find}
use Rattle.headertype.specs.HeaderType.{all_headers}
use Rattle.filter.specs.declared.Filter.{Filter}
use Rattle.storage.specs.Storage.{marked, storage}
use Rattle.parse.specs.Message.{headers, routed}
use Rattle.parse.proofs.Nothing.{headers_of_nothing}
use Rattle.outline.specs.There.{type_at, length_at, headers_at}
use Rattle.outline.specs.Outline.{tested, outline_from, outline_of}
use Rattle.outline.specs.declared.Outline.{Outline}
use Rattle.outline.specs.declared.OutlineAns.{OutlineAns}
use Rattle.outline.proofs.There.{routed_short, routed_there}
use Rattle.std.specs.Prelude.{Option, Some, None}

abbrev pub typed : Outline → ℕ
typed o = o.header_type

-- what stands behind an outline
pub record Seen (s : List ℕ) (o : Outline) : Type 0 where
  pub found : find pattern s 0 ≡ Some o.place
  pub there : o.place + 42 ≤ length s
  pub type_is : typed o ≡ type_at s (o.place + 16)
  pub length_is : o.length ≡ length_at s (o.place + 16)
  pub long : all_headers (typed o) ≤ o.length
  pub lies : o.place + 16 + o.length ≤ length s

-- and behind a hickup
pub record Refused (s : List ℕ) (i : ℕ) : Type 0 where
  pub found : find pattern s 0 ≡ Some i
  pub there : i + 42 ≤ length s
  pub below : length_at s (i + 16) < all_headers (type_at s (i + 16))

-- and behind no pattern
pub record Missed (s : List ℕ) (n : ℕ) : Type 0 where
  pub nothing : find pattern s 0 ≡ None
  pub need_is : n ≡ pick (leb 16 (length s)) 1 0

abbrev Told : List ℕ → OutlineAns → Type 0
Told s (OutlineAns.Done o) = Seen s o
Told s (OutlineAns.Hickup i) = Refused s i
Told s (OutlineAns.Nowhere n) = Missed s n
Told s OutlineAns.Unseen = Unit

module _ (s : List ℕ) (i : ℕ) (q : find pattern s 0 ≡ Some i) (h : i + 42 ≤ length s) where
  tested_tells : (b c : Bool) → leb (all_headers (type_at s (i + 16))) (length_at s (i + 16)) ≡ b → leb (length_at s (i + 16)) (length s - (i + 16)) ≡ c
      → Told s (pick b (pick c (OutlineAns.Done (record { place = i; header_type = type_at s (i + 16); length = length_at s (i + 16) })) OutlineAns.Unseen) (OutlineAns.Hickup i))
  tested_tells true true e d =
      let l = leb-true (length_at s (i + 16)) (length s - (i + 16)) d in
      record { found = q; there = h; type_is = refl; length_is = refl; long = leb-true _ _ e; lies = omega (arith, l) }
  tested_tells true false e d = tt
  tested_tells false c e d = record { found = q; there = h; below = leb-false _ _ e }

  tested_told : Told s (tested s i (type_at s (i + 16)) (length_at s (i + 16)))
  unfolding tested
  tested_told = tested_tells (leb (all_headers (type_at s (i + 16))) (length_at s (i + 16))) (leb (length_at s (i + 16)) (length s - (i + 16))) refl refl

tells : (s : List ℕ) → Told s (outline_of s)
unfolding outline_of
tells s = by (find pattern s 0) refl
  where
    at : (i : ℕ) (b : Bool) → find pattern s 0 ≡ Some i → leb 42 (length s - i) ≡ b → Told s (pick b (tested s i (type_at s (i + 16)) (length_at s (i + 16))) OutlineAns.Unseen)
    at i true q e =
        let l = leb-true 42 (length s - i) e in
        tested_told s i q (omega (arith, l))
    at i false q e = tt

    by : (x : Option ℕ) → find pattern s 0 ≡ x → Told s (outline_from s x)
    by (Some i) q = at i (leb 42 (length s - i)) q refl
    by None q = record { nothing = q; need_is = refl }

-- the same of a call's answer, r
module _ (s : List ℕ) (r : OutlineAns) (e : r ≡ outline_of s) where
  pub seen_of : (o : Outline) → r ≡ OutlineAns.Done o → Seen s o
  seen_of o q = subst (Told s) (sym e ∙ q) (tells s)

  pub glanced_long : (o : Outline) → r ≡ OutlineAns.Done o → all_headers o.header_type ≤ o.length
  glanced_long o q = (seen_of o q).long

  pub glanced_lies : (o : Outline) → r ≡ OutlineAns.Done o → o.place + 16 + o.length ≤ length s
  glanced_lies o q = (seen_of o q).lies

  pub refused_of : (i : ℕ) → r ≡ OutlineAns.Hickup i → Refused s i
  refused_of i q = subst (Told s) (sym e ∙ q) (tells s)

  pub missed_of : (n : ℕ) → r ≡ OutlineAns.Nowhere n → Missed s n
  missed_of n q = subst (Told s) (sym e ∙ q) (tells s)

-- ---- the rule's answer
module _ (f : List ℕ) (filter : Filter) (s : List ℕ) where
  pub seen_routed : (o : Outline) → typed o < 256 → Seen s o
      → routed f filter true s 0 ≡ done (headers_at f filter s o.place (typed o) o.length) (o.place + 16 + all_headers (typed o))
  seen_routed o byte w =
      let t = w.type_is in
      let n = w.length_is in
      let a : all_headers (type_at s (o.place + 16)) ≤ length_at s (o.place + 16) = rw (← t, ← n) w.long in
      let b : type_at s (o.place + 16) < 256 = rw (← t) byte in
      let l : length_at s (o.place + 16) ≤ length s - (o.place + 16) = rw (← n) (omega (arith, w.lies)) in
      rw (t, n) (routed_there f filter s o.place w.found w.there a b l)

  pub refused_routed : (i : ℕ) → Refused s i → routed f filter true s 0 ≡ hickup 1
  refused_routed i w = routed_short f filter s i w.found w.there w.below

  pub missed_routed : (n : ℕ) → Missed s n → routed f filter true s 0 ≡ need n
  unfolding routed choose storage marked ◌>>=◌
  missed_routed n w = rw (w.nothing, w.need_is, sub-zero) (by (leb 16 (length s)))
    where
      by : (b : Bool) → follow (pick b (done None (length s)) (need 0)) (λ o. headers f filter o) s ≡ need (pick b 1 0)
      by true = headers_of_nothing f filter None s
      by false = refl
