-- The places of a table that no entry uses are the host's: whatever it writes there between calls, the answers and the entries are the same. For any form
-- of the table.
--     same_entries      two tables of one length that agree on the entries used get the same answer and the same new entries
--     written-between   demand 3 where the host wrote into unused places between the two calls
-- Assumes nothing.
use Prim.Native.Nat.{ℕ, ◌+◌, ◌-◌, ◌*◌, ◌≤◌}
use mathlib.Core.Path.{◌≡◌, refl, sym, ap, ◌∙◌}
use mathlib.Core.Bool.{Bool, true, false}
use mathlib.Core.List.{List, ◌++◌}
use native.Mathlib.Omega.{arith}
use lib.ListN.{length, take, drop}
use lib.Dec.{ltb}
use borrow.Author.Tests.{ltb-true, ltb-false}
use Rattle.table.specs.Over.{over}
use Rattle.table.proofs.Laws.{over_length, over_upto}
use Rattle.walk.specs.Table.{flat}
use Rattle.filter.specs.Filter.{filter_of}
use Rattle.filter.specs.declared.Filter.{Filter}
use Rattle.filter.specs.declared.FilterError.{FilterError}
use Rattle.std.specs.Prelude.{Result, Ok, Err}
use Rattle.index.specs.Index.{limit, Form, Sound, refused, laid, walk_of, call}
use Rattle.index.specs.Calls.{unlimited, whole, adding, SameEntries, Alike}
use Rattle.index.specs.declared.State.{State}
use Rattle.index.specs.declared.End.{End}
use Rattle.index.specs.declared.Indexed.{Indexed}
use Rattle.index.proofs.Laws.{bad_filter_lem, retired_tag_lem, good_filter, bad_state, too_long, goes_ahead}
use Rattle.index.proofs.Promises.{ahead_so, fits, wide, demand_3}

module _ {A : Type 0} (form : Form A) (sound : Sound form) (f : List ℕ) where
  -- new entries v over both tables
  laid_alike : (T U v : List A) (k : ℕ) → length U ≡ length T → take k U ≡ take k T → k + length v ≤ length T
      → (length (over U k v) ≡ length (over T k v)) × (take (k + length v) (over U k v) ≡ take (k + length v) (over T k v))
  laid_alike T U v k long same h =
      let g : k + length v ≤ length U = omega (arith, long) in
      (over_length U k v g ∙ long ∙ sym (over_length T k v h), over_upto U k v g ∙ ap (λ (x : List A). x ++ v) same ∙ sym (over_upto T k v h))

  module _ (n : ℕ) (s : List ℕ) (st : State) (T U : List A) (same : SameEntries form st.used T U) where
    both_refuse : (e : End) → call form f n s st T ≡ refused st T e → call form f n s st U ≡ refused st U e → Alike form (call form f n s st T) (call form f n s st U)
    both_refuse e p q = rw (p, q) (refl, same)

    both_walk : (filter : Filter) → st.used ≤ form.holds (length T)
        → call form f n s st T ≡ laid form T st.used (walk_of f filter n s st (form.holds (length T)))
        → call form f n s st U ≡ laid form U st.used (walk_of f filter n s st (form.holds (length T)))
        → Alike form (call form f n s st T) (call form f n s st U)
    both_walk filter h p q =
        let v = flat form.cells (walk_of f filter n s st (form.holds (length T))).entries in
        let k = form.width * st.used in
        let end = wide form sound f filter n s st T h in
        let two = laid_alike T U v k same.as_long same.entries (omega (arith, fits form sound f filter n s st T h, end)) in
        rw (p, q) (refl, record { as_long = two.0; entries = rw end two.1 })

  pub same_entries : (n : ℕ) (s : List ℕ) (st : State) (T U : List A) → SameEntries form st.used T U → Alike form (call form f n s st T) (call form f n s st U)
  same_entries n s st T U same = by (filter_of f) refl
    where
      room : form.holds (length U) ≡ form.holds (length T)
      room = ap form.holds same.as_long

      third : (filter : Filter) → filter_of f ≡ Ok filter → st.used ≤ form.holds (length T) → (b : Bool) → ltb limit (st.at + length s) ≡ b
          → Alike form (call form f n s st T) (call form f n s st U)
      third filter e h true l =
          both_refuse n s st T U same End.TooLong
          (good_filter form f n s st T (filter_of f) filter refl e ∙ too_long form f n s st T filter h l)
          (good_filter form f n s st U (filter_of f) filter refl e ∙ too_long form f n s st U filter (rw room h) l)
      third filter e h false l =
          both_walk n s st T U same filter h
          (good_filter form f n s st T (filter_of f) filter refl e ∙ goes_ahead form f n s st T filter h l ∙ ahead_so form sound f filter n s st T)
          (good_filter form f n s st U (filter_of f) filter refl e ∙ goes_ahead form f n s st U filter (rw room h) l ∙ ahead_so form sound f filter n s st U
          ∙ ap (λ (k : ℕ). laid form U st.used (walk_of f filter n s st k)) room)

      second : (filter : Filter) → filter_of f ≡ Ok filter → (b : Bool) → ltb (form.holds (length T)) st.used ≡ b → Alike form (call form f n s st T) (call form f n s st U)
      second filter e true l =
          both_refuse n s st T U same End.BadState
          (good_filter form f n s st T (filter_of f) filter refl e ∙ bad_state form f n s st T filter (ltb-true _ _ l))
          (good_filter form f n s st U (filter_of f) filter refl e ∙ bad_state form f n s st U filter (rw room (ltb-true _ _ l)))
      second filter e false l = third filter e (ltb-false _ _ l) (ltb limit (st.at + length s)) refl

      by : (v : Result Filter FilterError) → filter_of f ≡ v → Alike form (call form f n s st T) (call form f n s st U)
      by (Ok filter) e = second filter e (ltb (form.holds (length T)) st.used) refl
      by (Err FilterError.Retired) e = both_refuse n s st T U same End.RetiredTag (retired_tag_lem form f n s st T (filter_of f) refl e) (retired_tag_lem form f n s st U (filter_of f) refl e)
      by (Err FilterError.Bad) e = both_refuse n s st T U same End.BadFilter (bad_filter_lem form f n s st T (filter_of f) refl e) (bad_filter_lem form f n s st U (filter_of f) refl e)

  -- DEMAND 3 where the host wrote into unused places: a call with any limit left a table, U has its entries, and a call without a limit over U, with more
  -- bytes added, ends as one call without a limit over all of them
  pub written_between : (n : ℕ) (s t : List ℕ) (st : State) (T U : List A) → st.at + length (s ++ t) ≤ limit
      → SameEntries form (call form f n s st T).answer.state.used (call form f n s st T).table U
      → Alike form (whole form f (s ++ t) st T)
      (adding (call form f n s st T).answer.taken (call form f unlimited (drop ((call form f n s st T).answer.state.at - st.at) (s ++ t)) (call form f n s st T).answer.state U))
  written_between n s t st T U l same =
      let a = call form f n s st T in
      let x = drop (a.answer.state.at - st.at) (s ++ t) in
      let two = same_entries unlimited x a.answer.state a.table U same in
      rw (← demand_3 form sound f n s t st T l) (ap (λ (r : Indexed). record { state = r.state; taken = a.answer.taken + r.taken; end = r.end }) two.0, two.1)
