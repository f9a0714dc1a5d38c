-- The call over a slice of structs and the flat call are one: the flat table's numbers are the struct table's fields in order. So the sums, which are
-- proved of the flat table, hold of this one. Assumes nothing.
use Prim.Native.Nat.{ℕ, zero, suc, ◌+◌, ◌-◌, ◌*◌, ◌/◌, ◌≤◌}
use mathlib.Core.Path.{◌≡◌, refl, sym, ap, ◌∙◌}
use mathlib.Core.Bool.{Bool, true, false}
use mathlib.Core.List.{List, [], ◌∷◌, ◌++◌, append_assoc}
use native.Mathlib.Nat.{mul-zero, mul-suc, mul-add, one-mul}
use native.Mathlib.Omega.{arith}
use lib.ListN.{length, take, drop, length-append, take-append-drop}
use lib.Seq.{take_at, drop_at, length-take-le}
use lib.Dec.{ltb}
use borrow.Author.Tests.{ltb-true, ltb-false}
use Rattle.table.specs.Over.{over}
use Rattle.walk.specs.Walk.{Entry as Found, Out}
use Rattle.walk.specs.Table.{flat}
use Rattle.walk.proofs.Cases.{walked}
use Rattle.walk.proofs.Laws.{counts}
use Rattle.walk.proofs.Going.{ended, flat_length}
use Rattle.filter.specs.Filter.{filter_of}
use Rattle.filter.specs.declared.Filter.{Filter}
use Rattle.filter.specs.declared.FilterError.{FilterError}
use Rattle.std.specs.Prelude.{Result, Ok, Err}
use Rattle.step.specs.Step.{asked}
use Rattle.index.specs.Index.{limit, flat_form, shown, laid, walk_of, ahead, checked, call, outcome}
use Rattle.index.specs.Calls.{fresh, totals}
use Rattle.index.specs.declared.State.{State}
use Rattle.index.proofs.Laws.{good_filter, bad_filter_lem, retired_tag_lem, bad_state, too_long, goes_ahead}
use Rattle.index.proofs.Promises.{ahead_so}
use Rattle.index.proofs.Flat.{flat_sound}
use Rattle.index.proofs.Flat as of-numbers
use Rattle.entries.specs.Form.{entry_form}
use Rattle.entries.specs.Flat.{spread, fields, numbers, flat_of, spanned}
use Rattle.entries.specs.declared.Entry.{Entry}
use Rattle.entries.proofs.Turns.{entry_sound}

-- ---- over any width

module _ {A B : Type 0} (w : ℕ) (f : A → List B) (wide : (x : A) → length (f x) ≡ w) where
  spread_length : (l : List A) → length (spread f l) ≡ w * length l
  unfolding spread
  spread_length [] = sym (mul-zero w)
  spread_length (x ∷ l) = omega (arith, length-append (f x) (spread f l), wide x, spread_length l, mul-suc w (length l))

  spread_append : (k l : List A) → spread f (k ++ l) ≡ spread f k ++ spread f l
  unfolding spread
  spread_append [] l = refl
  spread_append (x ∷ k) l = ap (λ (m : List B). f x ++ m) (spread_append k l) ∙ sym (append_assoc (f x) (spread f k) (spread f l))

  module _ (n : ℕ) (l : List A) (h : n ≤ length l) where
    cut : spread f l ≡ spread f (take n l) ++ spread f (drop n l)
    cut = ap (spread f) (sym (take-append-drop n l)) ∙ spread_append (take n l) (drop n l)

    long : length (spread f (take n l)) ≡ w * n
    long = spread_length (take n l) ∙ ap (λ (k : ℕ). w * k) (length-take-le n l h)

    spread_take : take (w * n) (spread f l) ≡ spread f (take n l)
    spread_take = ap (take (w * n)) cut ∙ take_at (spread f (take n l)) (spread f (drop n l)) (w * n) long

    spread_drop : drop (w * n) (spread f l) ≡ spread f (drop n l)
    spread_drop = ap (drop (w * n)) cut ∙ drop_at (spread f (take n l)) (spread f (drop n l)) (w * n) long

  -- written over, and then spread; or spread, and then written over
  pub spread_over : (l : List A) (n : ℕ) (v : List A) → n + length v ≤ length l → over (spread f l) (w * n) (spread f v) ≡ spread f (over l n v)
  unfolding over
  spread_over l n v h =
      let k : w * n + length (spread f v) ≡ w * (n + length v) = omega (arith, spread_length v, mul-add w n (length v)) in
      ap (λ (m : ℕ). take (w * n) (spread f l) ++ (spread f v ++ drop m (spread f l))) k
      ∙ rw (
        spread_take n l (omega arith),
        spread_drop (n + length v) l h,
        spread_append (take n l) (v ++ drop (n + length v) l),
        spread_append v (drop (n + length v) l),
      )

-- ---- the two calls

-- the entries of a walk, as the one and as the other call lays them down
one_by_one : (es : List (Found ℕ)) → flat flat_form.cells es ≡ numbers (flat entry_form.cells es)
unfolding spread
one_by_one [] = refl
one_by_one (e ∷ es) = ap (λ (l : List ℕ). flat_form.cells e ++ l) (one_by_one es)

places : (T : List Entry) → length (numbers T) / 4 ≡ length T
places T = omega (arith, spread_length 4 fields (λ e. refl) T)

module _ (f : List ℕ) (n : ℕ) (s : List ℕ) (st : State) (T : List Entry) where
  module _ (filter : Filter) where
    abbrev o : Out ℕ ℕ
    o = walk_of f filter n s st (length T)

    tables : st.used ≤ length T
        → over (numbers T) (4 * st.used) (flat flat_form.cells o.entries) ≡ numbers (over T (1 * st.used) (flat entry_form.cells o.entries))
    tables h =
        let m = counts (asked f filter) (walked (asked f filter) n (length T - st.used) st.at s) in
        rw (one_by_one o.entries, one-mul st.used)
        (spread_over 4 fields (λ e. refl) T st.used (flat entry_form.cells o.entries) (omega (arith, flat_length 1 entry_form.cells (λ e. refl) o.entries)))

    walks_alike : st.used ≤ length T → ahead flat_form f filter n s st (numbers T) ≡ flat_of (ahead entry_form f filter n s st T)
    walks_alike h =
        ahead_so flat_form flat_sound f filter n s st (numbers T)
        ∙ ap (λ (k : ℕ). laid flat_form (numbers T) st.used (walk_of f filter n s st k)) (places T)
        ∙ ap (λ (l : List ℕ). shown (length o.entries) (ended l o.at (st.used + length o.entries) o.ends)) (tables h)
        ∙ sym (ap flat_of (ahead_so entry_form entry_sound f filter n s st T))

    checks_alike : checked flat_form f filter n s st (numbers T) ≡ flat_of (checked entry_form f filter n s st T)
    checks_alike = by (ltb (length T) st.used) refl
      where
        then_long : st.used ≤ length T → (b : Bool) → ltb limit (st.at + length s) ≡ b → checked flat_form f filter n s st (numbers T) ≡ flat_of (checked entry_form f filter n s st T)
        then_long h true e = too_long flat_form f n s st (numbers T) filter (omega (arith, places T)) e ∙ sym (ap flat_of (too_long entry_form f n s st T filter h e))
        then_long h false e =
            goes_ahead flat_form f n s st (numbers T) filter (omega (arith, places T)) e
            ∙ walks_alike h
            ∙ sym (ap flat_of (goes_ahead entry_form f n s st T filter h e))

        by : (b : Bool) → ltb (length T) st.used ≡ b → checked flat_form f filter n s st (numbers T) ≡ flat_of (checked entry_form f filter n s st T)
        by true e =
            bad_state flat_form f n s st (numbers T) filter (omega (arith, places T, ltb-true (length T) st.used e))
            ∙ sym (ap flat_of (bad_state entry_form f n s st T filter (ltb-true _ _ e)))
        by false e = then_long (ltb-false _ _ e) (ltb limit (st.at + length s)) refl

  -- ONE CALL: the flat call over the fields' numbers answers the same, and leaves the numbers of the table that this one leaves
  pub same_call : outcome f n s st (numbers T) ≡ flat_of (call entry_form f n s st T)
  same_call = by (filter_of f) refl
    where
      by : (v : Result Filter FilterError) → filter_of f ≡ v → outcome f n s st (numbers T) ≡ flat_of (call entry_form f n s st T)
      by (Ok filter) e =
          good_filter flat_form f n s st (numbers T) (filter_of f) filter refl e
          ∙ checks_alike filter
          ∙ sym (ap flat_of (good_filter entry_form f n s st T (filter_of f) filter refl e))
      by (Err FilterError.Retired) e =
          retired_tag_lem flat_form f n s st (numbers T) (filter_of f) refl e
          ∙ sym (ap flat_of (retired_tag_lem entry_form f n s st T (filter_of f) refl e))
      by (Err FilterError.Bad) e =
          bad_filter_lem flat_form f n s st (numbers T) (filter_of f) refl e
          ∙ sym (ap flat_of (bad_filter_lem entry_form f n s st T (filter_of f) refl e))

-- ---- the sums

no_sum : (n : ℕ) → totals n [] ≡ 0
unfolding totals
no_sum zero = refl
no_sum (suc n) = omega (arith, no_sum n)

-- over the numbers and over the fields
one_sum : (n : ℕ) (T : List Entry) → totals n (numbers T) ≡ spanned n T
unfolding totals spread spanned
one_sum zero T = refl
one_sum (suc n) [] = no_sum (suc n)
one_sum (suc n) (e ∷ T) = ap (λ (k : ℕ). e.skipped + e.length + k) (one_sum n T)

-- a call keeps the sum; so from a fresh state skipped bytes and lengths add up to the resume position
pub sums : (f : List ℕ) (n : ℕ) (s : List ℕ) (st : State) (T : List Entry) → spanned st.used T ≡ st.at
    → spanned (call entry_form f n s st T).answer.state.used (call entry_form f n s st T).table ≡ (call entry_form f n s st T).answer.state.at
sums f n s st T e =
    sym (one_sum (call entry_form f n s st T).answer.state.used (call entry_form f n s st T).table)
    ∙ rw (same_call f n s st T) at (of-numbers.sums f n s st (numbers T) (one_sum st.used T ∙ e))

pub sums_up : (f : List ℕ) (n : ℕ) (s : List ℕ) (T : List Entry)
    → spanned (call entry_form f n s fresh T).answer.state.used (call entry_form f n s fresh T).table ≡ (call entry_form f n s fresh T).answer.state.at
unfolding spanned
sums_up f n s T = sums f n s fresh T refl
