-- The cases of a turn, and what the loop that does them keeps: from a table and a turn that is due to the next. Assumes nothing.
use Prim.Native.Nat.{ℕ, suc, ◌+◌, ◌-◌, ◌*◌, ◌≤◌, ◌<◌}
use mathlib.Core.Path.{◌≡◌, refl, sym, ◌∙◌}
use mathlib.Core.Bool.{Bool, true, false}
use mathlib.Core.List.{List, [], ◌∷◌}
use native.Mathlib.Nat.{one-mul}
use native.Mathlib.Omega.{arith}
use lib.ListN.{length, drop, set, length-drop}
use lib.Dec.{ltb, leb}
use borrow.Author.Tests.{ltb-true, ltb-false, leb-true, leb-false, lt-ltb, le-ltb, le-leb, lt-leb}
use Rattle.wire.specs.Parser.{pick}
use Rattle.table.specs.Over.{over}
use Rattle.table.proofs.Laws.{stores}
use Rattle.walk.specs.Walk.{Step, Wait, Take, Ends}
use Rattle.walk.proofs.Going.{here, ended, Going, ends_waiting, ends_full, ends_paused}
use Rattle.filter.specs.Filter.{filter_of}
use Rattle.filter.specs.declared.Filter.{Filter}
use Rattle.filter.specs.declared.FilterError.{FilterError}
use Rattle.std.specs.Prelude.{Result, Ok, Err}
use Rattle.step.specs.Step.{asked}
use Rattle.step.proofs.Fair.{fair}
use Rattle.index.specs.Index.{limit, Sound, stopped, end_of, ahead, call}
use Rattle.index.specs.declared.State.{State}
use Rattle.index.specs.declared.End.{End}
use Rattle.index.proofs.Laws.{Kept, starts, turns, no_turn, turned, ends_so, good_filter, bad_filter_lem, retired_tag_lem, bad_state, too_long, goes_ahead}
use Rattle.entries.specs.Form.{entry_form}
use Rattle.entries.specs.Turn.{stop_of, write_of, said_of, turn_of, judged_turn, first_of_lem, next_of_lem, Apt}
use Rattle.entries.specs.declared.Entry.{Entry}
use Rattle.entries.specs.declared.Turn.{Turn}

pub entry_sound : Sound entry_form
entry_sound = record { wide = λ e. refl; fits = λ n. omega arith }

-- ---- the cases of a turn, which the code's proof cites

module _ (filter : Filter) (from cap used at most taken : ℕ) where
  pub turn_paused : (x : Step ℕ ℕ) → most ≤ taken → stop_of (record { at = from + at; used = used }) taken End.Paused ≡ turn_of filter from cap used at most taken x
  unfolding turn_of
  turn_paused x h = rw (le-leb _ _ h)

  module _ {x : Step ℕ ℕ} (h : taken < most) where
    pub turn_waits : {need : ℕ} → x ≡ Wait need → stop_of (record { at = from + at; used = used }) taken (End.Waits need) ≡ turn_of filter from cap used at most taken x
    unfolding turn_of said_of
    turn_waits e = rw (lt-leb _ _ h, e)

    pub turn_full : {k l i : ℕ} → x ≡ Take k l i → cap ≤ used → stop_of (record { at = from + at; used = used }) taken End.Full ≡ turn_of filter from cap used at most taken x
    unfolding turn_of said_of
    turn_full e g = rw (lt-leb _ _ h, e, le-leb _ _ g)

    pub turn_writes : {k l i : ℕ} → x ≡ Take k l i → used < cap → write_of filter from cap used at most taken k l i ≡ turn_of filter from cap used at most taken x
    unfolding turn_of said_of
    turn_writes e g = rw (lt-leb _ _ h, e, lt-leb _ _ g)

-- and of the first one
module _ (f s : List ℕ) (st : State) (cap n : ℕ) (v : Result Filter FilterError) (e : v ≡ filter_of f) where
  pub first_bad_filter : v ≡ (Err FilterError.Bad) → stop_of st 0 End.BadFilter ≡ first_of_lem f s st cap n
  unfolding first_of_lem judged_turn
  first_bad_filter q = rw (sym e ∙ q)

  pub first_retired : v ≡ (Err FilterError.Retired) → stop_of st 0 End.RetiredTag ≡ first_of_lem f s st cap n
  unfolding first_of_lem judged_turn
  first_retired q = rw (sym e ∙ q)

  module _ (filter : Filter) (q : v ≡ Ok filter) where
    pub first_bad_state : cap < st.used → stop_of st 0 End.BadState ≡ first_of_lem f s st cap n
    unfolding first_of_lem judged_turn
    first_bad_state h = rw (sym e ∙ q, lt-ltb _ _ h)

    pub first_too_long : st.used ≤ cap → ltb limit (st.at + length s) ≡ true → stop_of st 0 End.TooLong ≡ first_of_lem f s st cap n
    unfolding first_of_lem judged_turn
    first_too_long h g = rw (sym e ∙ q, le-ltb _ _ h, g)

    pub first_due : st.used ≤ cap → ltb limit (st.at + length s) ≡ false → turn_of filter st.at cap st.used 0 n 0 (asked f filter s) ≡ first_of_lem f s st cap n
    unfolding first_of_lem judged_turn
    first_due h g = rw (sym e ∙ q, le-ltb _ _ h, g)

-- ---- what the loop keeps: where a turn t is due and the table is T, of a call over s from st with the table T₀ that may take n entries

-- an entry is due: it has its place, and the walk goes on behind it
pub record Writes (f s : List ℕ) (st : State) (n : ℕ) (T₀ T : List Entry) (t : Turn) : Type 0 where
  pub on : t.go ≡ true
  pub as_long : length T ≡ length T₀
  pub inside : t.place < length T
  pub apt : Apt s t
  pub good : filter_of f ≡ Ok t.filter
  pub from_is : st.at ≡ t.from
  pub cap_is : length T₀ ≡ t.cap
  pub most_is : n ≡ t.most
  pub free : st.used ≤ length T₀
  pub kept : Kept entry_form f t.filter n s (length T₀) st.at T₀ st.used (set T t.place t.entry) (t.place + 1) t.at (t.answer.taken + 1)

-- or the call ends, and what it leaves is what was said
pub data Due (f s : List ℕ) (st : State) (n : ℕ) (T₀ T : List Entry) (t : Turn) : Type 0 where
  ends : t.go ≡ false → length T ≡ length T₀ → call entry_form f n s st T₀ ≡ record { answer = t.answer; table = T } → Due f s st n T₀ T t
  writes : Writes f s st n T₀ T t → Due f s st n T₀ T t

-- the turns left, and one
abbrev pub left : List ℕ → Turn → ℕ
left s t = pick t.go (suc (length s - t.at)) 0

-- one store
stored : (T : List Entry) (u : ℕ) (e : Entry) → u < length T → set T u e ≡ over T (1 * u) (e ∷ [])
stored T u e h = rw (one-mul u) (stores T u (e ∷ []) (omega arith))

module _ (f s : List ℕ) (filter : Filter) (good : filter_of f ≡ Ok filter) (st : State) (n : ℕ) (T₀ : List Entry) (free : st.used ≤ length T₀) (fits : st.at + length s ≤ limit) where
  walks : call entry_form f n s st T₀ ≡ ahead entry_form f filter n s st T₀
  walks = good_filter entry_form f n s st T₀ (filter_of f) filter refl good ∙ goes_ahead entry_form f n s st T₀ filter free (le-ltb _ _ fits)

  -- wherever the invariant holds, the turn that the rule says is due
  due : (T : List Entry) (used at taken : ℕ) → Kept entry_form f filter n s (length T₀) st.at T₀ st.used T used at taken
      → Due f s st n T₀ T (turn_of filter st.at (length T₀) used at n taken (asked f filter (drop at s)))
  unfolding turn_of said_of
  due T used at taken kept = limited (leb n taken) refl
    where
      more : taken < n → Going (asked f filter) 1 entry_form.cells s (length T₀) st.at n T₀ st.used (suc (n - (taken + 1))) T used at
      more h = turns entry_form f filter n s (length T₀) st.at T₀ st.used kept h

      stops : {e : Ends ℕ} → here (asked f filter) 1 entry_form.cells s (length T₀) st.at n T₀ st.used 0 ≡ ended T (st.at + at) used e
          → call entry_form f n s st T₀ ≡ record { answer = stopped (st.at + at) used taken (end_of e); table = T }
      stops p = walks ∙ ends_so entry_form f n s st T₀ filter p kept.counted

      size : taken < n → (k l i : ℕ) → asked f filter (drop at s) ≡ Take k l i → (b : Bool) → leb (length T₀) used ≡ b
          → Due f s st n T₀ T (pick b (stop_of (record { at = st.at + at; used = used }) taken End.Full) (write_of filter st.at (length T₀) used at n taken k l i))
      size h k l i e true z =
          ends refl kept.going.as_long (stops (ends_full 1 entry_form.cells (λ x. refl) (asked f filter) (fair f filter) _ _ _ _ _ _ (more h) e (leb-true _ _ z)))
      size h k l i e false z =
          let low : used < length T₀ = leb-false _ _ z in
          let inside : used < length T = omega (arith, kept.going.as_long) in
          let lies = (fair f filter).within (drop at s) k l i e in
          let m = length-drop at s in
          let end : at + (k + l) ≤ length s = omega (arith, kept.going.within) in
          writes (record {
            on = refl;
            as_long = kept.going.as_long;
            inside = inside;
            apt = (end, (fits, (low, h)));
            good = good;
            from_is = refl;
            cap_is = refl;
            most_is = refl;
            free = free;
            kept = turned entry_form f filter n s (length T₀) st.at T₀ st.used kept entry_sound h e low (omega arith) _ (stored T used _ inside);
          })

      by : taken < n → (x : Step ℕ ℕ) → asked f filter (drop at s) ≡ x → Due f s st n T₀ T (said_of filter st.at (length T₀) used at n taken x)
      by h (Wait need) e =
          ends refl kept.going.as_long (stops (ends_waiting 1 entry_form.cells (λ x. refl) (asked f filter) (fair f filter) _ _ _ _ _ _ (more h) e))
      by h (Take k l i) e = size h k l i e (leb (length T₀) used) refl

      limited : (b : Bool) → leb n taken ≡ b
          → Due f s st n T₀ T (pick b (stop_of (record { at = st.at + at; used = used }) taken End.Paused) (said_of filter st.at (length T₀) used at n taken (asked f filter (drop at s))))
      limited true z =
          ends refl kept.going.as_long
          (stops (ends_paused 1 entry_form.cells (λ x. refl) (asked f filter) (fair f filter) _ _ _ _ _ _
          (no_turn entry_form f filter n s (length T₀) st.at T₀ st.used kept (leb-true _ _ z))))
      limited false z = by (leb-false _ _ z) (asked f filter (drop at s)) refl

-- THE LAWS OF THE LOOP: the first turn is due; after a store the next one is; and it comes nearer to the end
module _ (f s : List ℕ) (st : State) (n : ℕ) (T₀ : List Entry) where
  pub begins : Due f s st n T₀ T₀ (first_of_lem f s st (length T₀) n)
  unfolding first_of_lem judged_turn
  begins = judge (filter_of f) refl
    where
      long : (filter : Filter) → filter_of f ≡ Ok filter → st.used ≤ length T₀ → (b : Bool) → ltb limit (st.at + length s) ≡ b
          → Due f s st n T₀ T₀ (pick b (stop_of st 0 End.TooLong) (turn_of filter st.at (length T₀) st.used 0 n 0 (asked f filter s)))
      long filter q h true e = ends refl refl (good_filter entry_form f n s st T₀ (filter_of f) filter refl q ∙ too_long entry_form f n s st T₀ filter h e)
      long filter q h false e = due f s filter q st n T₀ h (ltb-false _ _ e) T₀ st.used 0 0 (starts entry_form f filter n s (length T₀) st.at T₀ st.used h)

      used_up : (filter : Filter) → filter_of f ≡ Ok filter → (b : Bool) → ltb (length T₀) st.used ≡ b
          → Due f s st n T₀ T₀
          (pick b (stop_of st 0 End.BadState) (pick (ltb limit (st.at + length s)) (stop_of st 0 End.TooLong) (turn_of filter st.at (length T₀) st.used 0 n 0 (asked f filter s))))
      used_up filter q true e = ends refl refl (good_filter entry_form f n s st T₀ (filter_of f) filter refl q ∙ bad_state entry_form f n s st T₀ filter (ltb-true _ _ e))
      used_up filter q false e = long filter q (ltb-false _ _ e) (ltb limit (st.at + length s)) refl

      judge : (v : Result Filter FilterError) → filter_of f ≡ v → Due f s st n T₀ T₀ (judged_turn f s st (length T₀) n v)
      judge (Ok filter) q = used_up filter q (ltb (length T₀) st.used) refl
      judge (Err FilterError.Retired) q = ends refl refl (retired_tag_lem entry_form f n s st T₀ (filter_of f) refl q)
      judge (Err FilterError.Bad) q = ends refl refl (bad_filter_lem entry_form f n s st T₀ (filter_of f) refl q)

  module _ (T : List Entry) (t : Turn) (w : Writes f s st n T₀ T t) where
    pub goes : Due f s st n T₀ (set T t.place t.entry) (next_of_lem f s t)
    unfolding next_of_lem
    goes = rw (← w.from_is, ← w.cap_is, ← w.most_is)
        (due f s t.filter w.good st n T₀ w.free (omega (arith, w.from_is, w.apt)) (set T t.place t.entry) (t.place + 1) t.at (t.answer.taken + 1) w.kept)

    pub nearer : left s (next_of_lem f s t) < left s t
    unfolding next_of_lem turn_of said_of
    nearer = rw w.on (limited (leb t.most (t.answer.taken + 1)))
      where
        st' : State
        st' = record { at = t.from + t.at; used = t.place + 1 }

        size : (k l i : ℕ) → asked f t.filter (drop t.at s) ≡ Take k l i → (b : Bool)
            → left s (pick b (stop_of st' (t.answer.taken + 1) End.Full) (write_of t.filter t.from t.cap (t.place + 1) t.at t.most (t.answer.taken + 1) k l i))
            < suc (length s - t.at)
        size k l i e true = omega arith
        size k l i e false = omega (
          arith,
          (fair f t.filter).within (drop t.at s) k l i e,
          (fair f t.filter).moves (drop t.at s) k l i e,
          length-drop t.at s,
          w.apt,
        )

        by : (x : Step ℕ ℕ) → asked f t.filter (drop t.at s) ≡ x
            → left s (said_of t.filter t.from t.cap (t.place + 1) t.at t.most (t.answer.taken + 1) x) < suc (length s - t.at)
        by (Wait need) e = omega arith
        by (Take k l i) e = size k l i e (leb t.cap (t.place + 1))

        limited : (b : Bool)
            → left s (pick b (stop_of st' (t.answer.taken + 1) End.Paused) (said_of t.filter t.from t.cap (t.place + 1) t.at t.most (t.answer.taken + 1) (asked f t.filter (drop t.at s))))
            < suc (length s - t.at)
        limited true = omega arith
        limited false = by (asked f t.filter (drop t.at s)) refl
