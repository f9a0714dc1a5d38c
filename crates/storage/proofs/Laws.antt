-- The laws of storage mode, over any mark and what it leads.
--     stored-law        the rule behind the pattern
--     marked-law        a mark, what it leads, and a rule behind that: lawful, where the rule needs 1 of no bytes
--     storage-law       the storage header and a rule behind it
-- Assumes nothing.
use Prim.Native.Nat.{ℕ, suc, ◌+◌, ◌-◌, ◌≤◌, ◌<◌}
use native.Mathlib.Omega.{arith}
use native.Mathlib.Nat.{not-suc-le-zero}
use mathlib.Core.Path.{◌≡◌, refl, ap, ◌∙◌}
use mathlib.Core.Bool.{Bool, true, false}
use mathlib.Core.List.{List, [], ◌∷◌, ◌++◌, append-nil}
use lib.ListN.{length, length-append}
use lib.Dec.{leb, lit<}
use borrow.Author.Tests.{le-leb, leb-true}
use Rattle.wire.specs.Answer.{Ans, Parser}
use Rattle.wire.specs.Answer.Ans.{done, need, hickup, broken}
use Rattle.wire.specs.Parser.{pick, follow, ◌>>=◌}
use Rattle.wire.specs.Lawful.{Lawful, Kept, Within}
use Rattle.wire.proofs.Laws.{then_law}
use Rattle.wire.proofs.Rules.{laws}
use Rattle.strings.proofs.Strings.{identified_law}
use Rattle.mark.specs.First.{pattern, find}
use Rattle.mark.proofs.Laws.{found_from, found_within, find_stable}
use Rattle.storage.specs.Storage.{from_mark, marked, owned, stored, storage}
use Rattle.std.specs.Prelude.{Option, Some, None}
use Rattle.storage.specs.declared.Stored.{Stored}

owned_law : (skipped seconds micros : ℕ) → Lawful (owned skipped seconds micros)
unfolding owned
owned_law skipped seconds micros = search (laws, identified_law) depth 20

pub stored_law : (skipped : ℕ) → Lawful (stored skipped)
unfolding stored
stored_law skipped = search (laws, owned_law) depth 20

no_bytes : (t : List ℕ) → length t < 1 → t ≡ []
no_bytes [] h = refl
no_bytes (x ∷ t) h = absurd (not-suc-le-zero (lower h))
  where
    lower : suc (length t) < 1 → suc (length t) ≤ 0
    lower k = omega arith

module _ {A B : Type 0} (mark : List ℕ) (some : 0 < length mark) (n : ℕ) (lead : ℕ → Parser A) (none : A) (k : A → Parser B)
    (hl : (skipped : ℕ) → Lawful (lead skipped)) (hk : (a : A) → Lawful (k a)) (none-needs : (s : List ℕ) → k none s (length s) ≡ need 1) where
  -- the lead and the rule behind it, with so many bytes skipped
  both : (skipped : ℕ) → Lawful (lead skipped >>= k)
  both skipped = then_law (lead skipped) k (hl skipped) hk

  found_kept : (s t : List ℕ) (at : ℕ) (o : Option ℕ) → find mark s at ≡ o
      → Kept (follow (from_mark lead none s at o) k s) (length t) (follow (from_mark lead none (s ++ t) at (find mark (s ++ t) at)) k (s ++ t))
  unfolding ◌>>=◌
  found_kept s t at (Some i) e =
      let w = found_within mark s at i some e in
      rw (find_stable mark s t at i some e) ((both (i - at)).kept s t i (omega arith))
  found_kept s t at None e =
      rw (none-needs s) (λ few.
      let z : t ≡ [] = no_bytes t few in
      let same : s ++ t ≡ s = ap (λ (l : List ℕ). s ++ l) z ∙ append-nil s in
      rw (same, e, none-needs s) tt)

  marked_kept : (s t : List ℕ) (at : ℕ) → at ≤ length s → (b : Bool) → leb n (length s - at) ≡ b
      → Kept (follow (pick b (from_mark lead none s at (find mark s at)) (need 0)) k s) (length t)
      (follow (pick (leb n (length (s ++ t) - at)) (from_mark lead none (s ++ t) at (find mark (s ++ t) at)) (need 0)) k (s ++ t))
  marked_kept s t at h true e =
      let f : n ≤ length s - at = leb-true _ _ e in
      let l : length (s ++ t) ≡ length s + length t = length-append s t in
      rw (le-leb n (length (s ++ t) - at) (omega arith)) (found_kept s t at (find mark s at) refl)
  marked_kept s t at h false e = λ few. absurd (not-suc-le-zero few)

  further : (at b len : ℕ) → at ≤ b → (y : Ans B) → Within b len y → Within at len y
  further at b len h (done a c) w = (omega (arith, w.0), w.1)
  further at b len h (need n) w = tt
  further at b len h (hickup r) w = tt
  further at b len h broken w = tt

  found_inside : (s : List ℕ) (at : ℕ) (o : Option ℕ) → find mark s at ≡ o → Within at (length s) (follow (from_mark lead none s at o) k s)
  unfolding ◌>>=◌
  found_inside s at (Some i) e =
      let w = found_within mark s at i some e in
      let f = found_from mark s at i some e in
      further at i (length s) f ((lead (i - at) >>= k) s i) ((both (i - at)).within s i (omega arith))
  found_inside s at None e = rw (none-needs s) tt

  marked_inside : (s : List ℕ) (at : ℕ) (b : Bool) → Within at (length s) (follow (pick b (from_mark lead none s at (find mark s at)) (need 0)) k s)
  marked_inside s at true = found_inside s at (find mark s at) refl
  marked_inside s at false = tt

  pub marked_law : Lawful (marked mark n lead none >>= k)
  unfolding marked ◌>>=◌
  marked_law = record {
    kept = λ s t at h. marked_kept s t at h (leb n (length s - at)) refl;
    within = λ s at h. marked_inside s at (leb n (length s - at));
  }

-- a rule behind the storage header; with no pattern the rest is empty, so the rule's need there is the whole's
pub storage_law : {B : Type 0} (k : Option Stored → Parser B) → ((o : Option Stored) → Lawful (k o)) → ((s : List ℕ) → k None s (length s) ≡ need 1) → Lawful (storage >>= k)
unfolding storage
storage_law k hk e = marked_law pattern (lit< tt) 16 stored None k stored_law hk e
