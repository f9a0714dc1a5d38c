-- Of the flat table: it is a sound form; and from a fresh state, skipped bytes and lengths over all entries add up to the resume position. That is said
-- of the table itself, so that it holds over any number of calls: a call keeps it, and of the fresh state it is true. Assumes nothing.
use Prim.Native.Nat.{ℕ, zero, suc, ◌+◌, ◌-◌, ◌*◌, ◌/◌, ◌≤◌}
use mathlib.Core.Path.{◌≡◌, refl, sym, ap, ◌∙◌}
use mathlib.Core.List.{List, [], ◌∷◌, ◌++◌}
use native.Mathlib.Nat.{zero-add, suc-add}
use native.Mathlib.Omega.{arith}
use lib.ListN.{length, take, drop, take-append-drop}
use lib.Seq.{drop_at, drop-drop, length-take-le}
use Rattle.table.specs.Over.{over}
use Rattle.walk.specs.Walk.{Entry, spans}
use Rattle.walk.specs.Table.{flat}
use Rattle.walk.proofs.Cases.{walked}
use Rattle.walk.proofs.Laws.{adds_up}
use Rattle.step.specs.Step.{asked}
use Rattle.index.specs.Index.{Sound, flat_form, walk_of, outcome}
use Rattle.index.specs.Calls.{fresh, totals}
use Rattle.index.specs.declared.State.{State}
use Rattle.index.proofs.Promises.{Came, no, long, yes, came, ahead_so}

pub flat_sound : Sound flat_form
flat_sound = record { wide = λ e. refl; fits = λ n. omega arith }

-- the entries of a walk, whatever stands behind them
of_flat : (es : List (Entry ℕ)) (X : List ℕ) → totals (length es) (flat flat_form.cells es ++ X) ≡ spans es
unfolding totals
of_flat [] X = refl
of_flat (e ∷ es) X = ap (λ (n : ℕ). e.skipped + e.len + n) (of_flat es X)

-- only the entries counted matter
front : (u : ℕ) (p X : List ℕ) → 4 * u ≤ length p → totals u (p ++ X) ≡ totals u p
unfolding totals
front zero p X h = refl
front (suc u) [] X h = absurd (omega arith)
front (suc u) (a ∷ []) X h = absurd (omega arith)
front (suc u) (a ∷ b ∷ []) X h = absurd (omega arith)
front (suc u) (a ∷ b ∷ c ∷ []) X h = absurd (omega arith)
front (suc u) (a ∷ b ∷ c ∷ d ∷ p) X h = ap (λ (n : ℕ). b + c + n) (front u p X (omega arith))

-- u entries and then n more
split : (u n : ℕ) (T : List ℕ) → totals (u + n) T ≡ totals u T + totals n (drop (4 * u) T)
unfolding totals
split zero n T = rw (zero-add n, zero-add (totals n (drop (4 * zero) T)))
split (suc u) n T =
    let e : 4 + 4 * u ≡ 4 * suc u = omega arith in
    rw suc-add (omega (arith, split u n (drop 4 T), ap (totals n) (drop-drop (4 * u) 4 T ∙ ap (λ (k : ℕ). drop k T) e)))

laid : (T : List ℕ) (u : ℕ) (es : List (Entry ℕ)) → 4 * u ≤ length T → totals (u + length es) (over T (4 * u) (flat flat_form.cells es)) ≡ totals u T + spans es
unfolding over
laid T u es h =
    let v = flat flat_form.cells es in
    let p = take (4 * u) T in
    let X = drop (4 * u + length v) T in
    let n = length-take-le (4 * u) T h in
    let a : totals u (p ++ (v ++ X)) ≡ totals u T =
    front u p (v ++ X) (omega arith) ∙ sym (front u p (drop (4 * u) T) (omega arith)) ∙ ap (totals u) (take-append-drop (4 * u) T) in
    let b : totals (length es) (drop (4 * u) (p ++ (v ++ X))) ≡ spans es =
    ap (totals (length es)) (drop_at p (v ++ X) (4 * u) n) ∙ of_flat es X in
    omega (arith, split u (length es) (p ++ (v ++ X)))

-- a call keeps the sum
pub sums : (f : List ℕ) (n : ℕ) (s : List ℕ) (st : State) (T : List ℕ) → totals st.used T ≡ st.at
    → totals (outcome f n s st T).answer.state.used (outcome f n s st T).table ≡ (outcome f n s st T).answer.state.at
sums f n s st T e = by (came flat_form flat_sound f n s st T)
  where
    by : Came flat_form flat_sound f n s st T → totals (outcome f n s st T).answer.state.used (outcome f n s st T).table ≡ (outcome f n s st T).answer.state.at
    by (no z a q) = rw (q n s) e
    by (long l q) = rw (q n) e
    by (yes filter h l g q) =
        let o = walk_of f filter n s st (length T / 4) in
        rw (q n, ahead_so flat_form flat_sound f filter n s st T)
        (laid T st.used o.entries (omega arith)
        ∙ ap (λ (m : ℕ). m + spans o.entries) e
        ∙ adds_up (asked f filter) (walked (asked f filter) n (length T / 4 - st.used) st.at s))

-- from a fresh state
pub sums_up : (f : List ℕ) (n : ℕ) (s T : List ℕ) → totals (outcome f n s fresh T).answer.state.used (outcome f n s fresh T).table ≡ (outcome f n s fresh T).answer.state.at
unfolding totals
sums_up f n s T = sums f n s fresh T refl
