-- The cases of a call, and what its loop keeps, for any form of the table. Assumes nothing.
use Prim.Native.Nat.{ℕ, suc, ◌+◌, ◌-◌, ◌*◌, ◌≤◌, ◌<◌}
use mathlib.Core.Path.{◌≡◌, refl, sym, ap, ◌∙◌}
use mathlib.Core.Bool.{Bool, true, false}
use mathlib.Core.List.{List, [], ◌∷◌}
use native.Mathlib.Nat.{add-zero, sub-zero}
use native.Mathlib.Numerals.{add-one, add-two, add-three}
use native.Mathlib.Omega.{arith}
use lib.ListN.{length, take, drop, set, length-drop}
use lib.Seq.{take_all}
use lib.Dec.{ltb}
use borrow.Author.Tests.{lt-ltb, le-ltb, ltb-true, ltb-false}
use Rattle.table.specs.Over.{over}
use Rattle.table.proofs.Laws.{stores}
use Rattle.walk.specs.Walk.{Ends, Take, entry}
use Rattle.walk.specs.Table.{Done, finish}
use Rattle.walk.proofs.Going.{here, ended, Going, goes_on}
use Rattle.filter.specs.Filter.{filter_of}
use Rattle.filter.specs.declared.Filter.{Filter}
use Rattle.filter.specs.declared.FilterError.{FilterError}
use Rattle.std.specs.Prelude.{Result, Ok, Err}
use Rattle.step.specs.Step.{asked}
use Rattle.step.proofs.Fair.{fair}
use Rattle.index.specs.Index.{limit, Form, Sound, Outcome, stopped, refused, end_of, shown, walk_of, ahead, checked, judged, call}
use Rattle.index.specs.declared.State.{State}
use Rattle.index.specs.declared.End.{End}
use Rattle.index.specs.declared.Indexed.{Indexed}

-- ---- the cases of a call
module _ {A : Type 0} (form : Form A) (f : List ℕ) (n : ℕ) (s : List ℕ) (st : State) (T : List A) where
  pub bad_filter_lem : (v : Result Filter FilterError) → v ≡ filter_of f → v ≡ (Err FilterError.Bad) → call form f n s st T ≡ refused st T End.BadFilter
  unfolding call judged
  bad_filter_lem v e q = rw (sym e ∙ q)

  pub retired_tag_lem : (v : Result Filter FilterError) → v ≡ filter_of f → v ≡ (Err FilterError.Retired) → call form f n s st T ≡ refused st T End.RetiredTag
  unfolding call judged
  retired_tag_lem v e q = rw (sym e ∙ q)

  pub good_filter : (v : Result Filter FilterError) (filter : Filter) → v ≡ filter_of f → v ≡ Ok filter → call form f n s st T ≡ checked form f filter n s st T
  unfolding call judged
  good_filter v filter e q = rw (sym e ∙ q)

  module _ (filter : Filter) where
    pub bad_state : form.holds (length T) < st.used → checked form f filter n s st T ≡ refused st T End.BadState
    unfolding checked
    bad_state h = simp (lt-ltb _ _ h)

    pub too_long : st.used ≤ form.holds (length T) → ltb limit (st.at + length s) ≡ true → checked form f filter n s st T ≡ refused st T End.TooLong
    unfolding checked
    too_long h g = simp (le-ltb _ _ h, g)

    pub goes_ahead : st.used ≤ form.holds (length T) → ltb limit (st.at + length s) ≡ false → checked form f filter n s st T ≡ ahead form f filter n s st T
    unfolding checked
    goes_ahead h g = simp (le-ltb _ _ h, g)

    -- where the walk's loop stops
    pub ends_so : {T' : List A} {pos used taken : ℕ} {e : Ends ℕ}
        → here (asked f filter) form.width form.cells s (form.holds (length T)) st.at n T st.used 0 ≡ ended T' pos used e → used ≡ st.used + taken
        → ahead form f filter n s st T ≡ record { answer = stopped pos used taken (end_of e); table = T' }
    unfolding ahead here
    ends_so {taken = taken} p counted =
        let o = walk_of f filter n s st (form.holds (length T)) in
        let q = rw add-zero at p in
        let many : length o.entries ≡ taken = omega (arith, ap (λ (d : Done ℕ A). d.used) q) in
        ap (λ (k : ℕ). shown k (finish form.width form.cells T st.used o)) many ∙ ap (shown taken) q

-- the answer that a call built
pub with_answer : {A : Type 0} (T : List A) {r a : Indexed} → r ≡ a → ◌≡◌ {A = Outcome A} (record { answer = a; table = T }) (record { answer = r; table = T })
with_answer T e = rw e

-- ---- the loop's invariant, at this rule and a form: the turns to go are n less those taken
pub record Kept {A : Type 0} (form : Form A) (f : List ℕ) (filter : Filter) (n : ℕ) (s : List ℕ) (size from : ℕ) (T₀ : List A) (used₀ : ℕ) (T : List A) (used at taken : ℕ) : Type 0 where
  pub going : Going (asked f filter) form.width form.cells s size from n T₀ used₀ (n - taken) T used at
  pub counted : used ≡ used₀ + taken

module _ {A : Type 0} (form : Form A) (f : List ℕ) (filter : Filter) (n : ℕ) (s : List ℕ) (size from : ℕ) (T₀ : List A) (used₀ : ℕ) where
  pub starts : used₀ ≤ size → Kept form f filter n s size from T₀ used₀ T₀ used₀ 0 0
  starts h = record {
    going = rw sub-zero (record { within = omega arith; room = h; as_long = refl; same = refl });
    counted = omega arith;
  }

  module _ {T : List A} {used at taken : ℕ} (kept : Kept form f filter n s size from T₀ used₀ T used at taken) where
    -- a turn is to go, or none
    pub turns : taken < n → Going (asked f filter) form.width form.cells s size from n T₀ used₀ (suc (n - (taken + 1))) T used at
    turns h = let e : n - taken ≡ suc (n - (taken + 1)) = omega arith in rw e at kept.going

    pub no_turn : n ≤ taken → Going (asked f filter) form.width form.cells s size from n T₀ used₀ 0 T used at
    no_turn h = let e : n - taken ≡ 0 = omega arith in rw e at kept.going

    -- a turn is done
    pub turned : Sound form → {k l i : ℕ} → taken < n → asked f filter (drop at s) ≡ Take k l i → used < size → form.width * size ≤ length T₀
        → (T' : List A) → T' ≡ over T (form.width * used) (form.cells (entry (from + at) k l i))
        → Kept form f filter n s size from T₀ used₀ T' (used + 1) (at + (k + l)) (taken + 1)
    turned sound h e g b T' p = record {
      going = goes_on form.width form.cells sound.wide (asked f filter) (fair f filter) s size from n T₀ used₀ (turns h) e g b T' p;
      counted = omega (arith, kept.counted);
    }

-- four stores
pub put_over : (T : List ℕ) (u a b c d : ℕ) → 4 * u + 4 ≤ length T
    → set (set (set (set T (4 * u) a) (4 * u + 1) b) (4 * u + 2) c) (4 * u + 3) d ≡ over T (4 * u) (a ∷ b ∷ c ∷ d ∷ [])
put_over T u a b c d h = rw (add-one (4 * u), add-two (4 * u), add-three (4 * u)) (stores T (4 * u) (a ∷ b ∷ c ∷ d ∷ []) h)

-- the part &s[i..], as the code's slice has it
pub tail_part : (s : List ℕ) (i : ℕ) → take (length s - i) (drop i s) ≡ drop i s
tail_part s i = take_all (length s - i) (drop i s) (omega (arith, length-drop i s))

-- a sum over a bound, without the sum
pub split_sum : (bound a n : ℕ) → a ≤ bound → ltb (bound - a) n ≡ ltb bound (a + n)
split_sum bound a n h = by (ltb (bound - a) n) refl
  where
    by : (b : Bool) → ltb (bound - a) n ≡ b → b ≡ ltb bound (a + n)
    by true e = let g : bound - a < n = ltb-true (bound - a) n e in sym (lt-ltb bound (a + n) (omega arith))
    by false e = let g : n ≤ bound - a = ltb-false (bound - a) n e in sym (le-ltb bound (a + n) (omega arith))

pub over_by_itself : (bound a n : ℕ) → bound < a → true ≡ ltb bound (a + n)
over_by_itself bound a n h = sym (lt-ltb bound (a + n) (omega arith))
