-- What a host can rely on over calls, from the contract alone: `call` is all that a call determines. For any form of the table. In an equation over calls
-- in a row the numbers taken are added up (`adding`); all else is the last call's.
--     demand-3       a call with any limit, then one without, with more bytes added, is one call without a limit over all of them
--     resumed        the same over a trace of which only the bytes from the resume position on are as they were
--     in_parts       the same for any number of calls, with any limits and any bytes in between
--     in-portions    calls with limits, until an answer isn't Paused, are one call with the sum of their limits
--     repeated-calls and where the limits are above 0 they end as one call without a limit
--     cancelled      a loop that is cancelled and goes on later, with more bytes or other bytes before the resume position, ends as the uncancelled one
--     no-limit       a limit above the number of bytes is as good as none
--     counted        the entries used grow by the number taken
--     zero-keeps     a call that stops after 0 changes nothing
--     zero-pauses    and unless it is refused it is Paused
--     still-waits    fewer bytes than the need: nothing is written, and it waits where it did
--     worth-the-wait exactly the need, of a message that ends by its length: an entry more, or Full
--     kept-before    entries that were written stay
--     kept-behind    entries beyond those used keep what they held
-- Assumes nothing.
use Prim.Native.Nat.{ℕ, zero, suc, ◌+◌, ◌-◌, ◌*◌, ◌≤◌, ◌<◌}
use mathlib.Core.Path.{◌≡◌, refl, sym, ap, ◌∙◌, subst}
use mathlib.Core.Bool.{Bool, true, false}
use mathlib.Core.List.{List, [], ◌∷◌, ◌++◌, append-nil, append_assoc}
use native.Mathlib.Nat.{add-zero, mul-le-mul_left, mul-add}
use native.Mathlib.Omega.{arith}
use lib.ListN.{length, take, drop, length-append, length-drop}
use lib.Seq.{drop-append-le, drop-drop}
use lib.Dec.{ltb}
use borrow.Author.Tests.{le-ltb, ltb-true, ltb-false}
use Rattle.wire.specs.Answer.Ans.{done}
use Rattle.mark.specs.First.{pattern, find}
use Rattle.headertype.specs.HeaderType.{overall_length_of}
use Rattle.headertype.specs.declared.StandardHeader.{StandardHeader}
use Rattle.headers.specs.Standard.{standard}
use Rattle.table.specs.Over.{over}
use Rattle.table.proofs.Laws.{over_none, over_length, over_before, over_behind}
use Rattle.walk.specs.Walk.{Entry, Wait, Take, Ends, Waits, Out, stop, after, turn, run, walk}
use Rattle.walk.specs.Walk as walking
use Rattle.walk.specs.Table.{flat, finish}
use Rattle.walk.proofs.Cases.{walked}
use Rattle.walk.proofs.Laws.{adds_up, counts, bounds, enough, waits_at}
use Rattle.walk.proofs.Calls.{demand3}
use Rattle.walk.proofs.Calls as walks
use Rattle.walk.proofs.Going.{flat_length, finish_after}
use Rattle.filter.specs.Filter.{filter_of}
use Rattle.filter.specs.declared.Filter.{Filter}
use Rattle.filter.specs.declared.FilterError.{FilterError}
use Rattle.std.specs.Prelude.{Result, Ok, Err, Some}
use Rattle.step.specs.Step.{asked}
use Rattle.step.proofs.Fair.{fair, patient}
use Rattle.step.proofs.Past as declared
use Rattle.step.proofs.Past.{worth_an_entry, at_least_one}
use Rattle.worth.specs.Opening.{Opening, opening}
use Rattle.index.specs.Index.{limit, Form, Sound, number_of, Refuses, Outcome, refused, shown, laid, end_of, walk_of, ahead, checked, call}
use Rattle.index.specs.Calls.{unlimited, whole, adding, next, over_trace, calls, joined, unless_paused, repeated, Above, total, WaitOver}
use Rattle.index.specs.declared.State.{State}
use Rattle.index.specs.declared.End.{End}
use Rattle.index.proofs.Laws.{bad_filter_lem, retired_tag_lem, good_filter, bad_state, too_long, goes_ahead}

-- ---- the walk of a call
module _ {A : Type 0} (form : Form A) (sound : Sound form) (f : List ℕ) (filter : Filter) where
  -- entries laid down first, and a walk behind them
  laid_after : (T : List A) (u : ℕ) (xs : List (Entry ℕ)) (o : Out ℕ ℕ) → form.width * (u + length xs) ≤ length T
      → adding (length xs) (laid form (over T (form.width * u) (flat form.cells xs)) (u + length xs) o) ≡ laid form T u (after xs o)
  laid_after T u xs o h =
      ap (λ (k : ℕ). shown k (finish form.width form.cells (over T (form.width * u) (flat form.cells xs)) (u + length xs) o)) (sym (length-append xs o.entries))
      ∙ ap (shown (length (xs ++ o.entries))) (sym (finish_after form.width form.cells sound.wide T u xs o h))

  module _ (n : ℕ) (s : List ℕ) (st : State) (T : List A) where
    abbrev out : Out ℕ ℕ
    out = walk_of f filter n s st (form.holds (length T))

    abbrev written : List A
    written = flat form.cells out.entries

    module _ (h : st.used ≤ form.holds (length T)) where
      -- the entries have their places in the table
      room : st.used + length out.entries ≤ form.holds (length T)
      room = omega (arith, (counts (asked f filter) (walked (asked f filter) n (form.holds (length T) - st.used) st.at s)).1)

      pub fits : form.width * (st.used + length out.entries) ≤ length T
      fits =
          omega (
            arith,
            mul-le-mul_left {m = st.used + length out.entries} {n = form.holds (length T)} form.width room,
            sound.fits (length T),
          )

      pub wide : form.width * (st.used + length out.entries) ≡ form.width * st.used + length written
      wide = omega (arith, flat_length form.width form.cells sound.wide out.entries, mul-add form.width st.used (length out.entries))

      as_long : length (over T (form.width * st.used) written) ≡ length T
      as_long = over_length T (form.width * st.used) written (omega (arith, fits, wide))

    pub ahead_so : ahead form f filter n s st T ≡ laid form T st.used out
    unfolding ahead
    ahead_so = refl

    -- the walk goes forward, within the bytes
    way : (st.at ≤ out.at) × (out.at ≤ st.at + length s)
    way =
        let w = walked (asked f filter) n (form.holds (length T) - st.used) st.at s in
        omega (arith, adds_up (asked f filter) w, bounds (asked f filter) (fair f filter) w)

  -- a walk of a call, and then one with limit m over bytes x, of which all is now s ++ t
  behind : (n m : ℕ) (s t : List ℕ) (st : State) (T : List A) → st.used ≤ form.holds (length T) → st.at + length (s ++ t) ≤ limit
      → adding (length (out n s st T).entries) (checked form f filter m (drop ((out n s st T).at - st.at) (s ++ t)) (ahead form f filter n s st T).answer.state (ahead form f filter n s st T).table)
      ≡ laid form T st.used (walking.second (asked f filter) m (form.holds (length T)) st.at st.used (s ++ t) (out n s st T))
  unfolding ahead
  behind n m s t st T h g =
      let o = out n s st T in
      let used = st.used + length o.entries in
      let left = drop (o.at - st.at) (s ++ t) in
      let T' = over T (form.width * st.used) (written n s st T) in
      let len : length T' ≡ length T = as_long n s st T h in
      let free : used ≤ form.holds (length T') = rw len (room n s st T h) in
      let end : o.at + length left ≤ limit = omega (arith, way n s st T, length-drop (o.at - st.at) (s ++ t), length-append s t) in
      ap (adding (length o.entries))
      (goes_ahead form f m left (record { at = o.at; used = used }) T' filter free (le-ltb _ _ end)
      ∙ ap (λ (k : ℕ). laid form T' used (walk (asked f filter) m (form.holds k) o.at used left)) len)
      ∙ laid_after T st.used o.entries (walk (asked f filter) m (form.holds (length T)) o.at used left) (fits n s st T h)

  -- DEMAND 3 of the walks that two calls make
  twice : (n : ℕ) (s t : List ℕ) (st : State) (T : List A) → st.used ≤ form.holds (length T) → st.at + length (s ++ t) ≤ limit
      → adding (length (out n s st T).entries) (checked form f filter unlimited (drop ((out n s st T).at - st.at) (s ++ t)) (ahead form f filter n s st T).answer.state (ahead form f filter n s st T).table)
      ≡ checked form f filter unlimited (s ++ t) st T
  twice n s t st T h g =
      behind n unlimited s t st T h g
      ∙ ap (laid form T st.used) (sym (demand3 (asked f filter) (fair f filter) n unlimited (form.holds (length T)) st.at st.used s t (omega arith)))
      ∙ sym (ahead_so unlimited (s ++ t) st T)
      ∙ sym (goes_ahead form f unlimited (s ++ t) st T filter h (le-ltb _ _ g))

  -- LIMITS IN A ROW of the walks that two calls make
  twice_limited : (n m : ℕ) (s : List ℕ) (st : State) (T : List A) → st.used ≤ form.holds (length T) → st.at + length s ≤ limit
      → unless_paused (end_of (out n s st T).ends) (laid form T st.used (out n s st T))
      (adding (length (out n s st T).entries) (checked form f filter m (drop ((out n s st T).at - st.at) s) (ahead form f filter n s st T).answer.state (ahead form f filter n s st T).table))
      ≡ checked form f filter (n + m) s st T
  twice_limited n m s st T h g =
      let o = out n s st T in
      let more = walking.second (asked f filter) m (form.holds (length T)) st.at st.used s o in
      ap (unless_paused (end_of o.ends) (laid form T st.used o)) (rw append-nil at (behind n m s [] st T h (rw append-nil g)))
      ∙ by o.ends more
      ∙ ap (laid form T st.used) (walks.in_a_row (asked f filter) (fair f filter) n m (form.holds (length T)) st.at st.used s)
      ∙ sym (ahead_so (n + m) s st T)
      ∙ sym (goes_ahead form f (n + m) s st T filter h (le-ltb _ _ g))
    where
      by : (e : Ends ℕ) (more : Out ℕ ℕ)
          → unless_paused (end_of e) (laid form T st.used (out n s st T)) (laid form T st.used more) ≡ laid form T st.used (walking.unless_paused e (out n s st T) more)
      by Ends.Paused more = refl
      by Ends.Full more = refl
      by (Ends.Waits need) more = refl

-- ---- the call
module _ {A : Type 0} (form : Form A) (sound : Sound form) (f : List ℕ) where
  -- refused, and then nothing changes; or its walk was made
  pub data Came (n : ℕ) (s : List ℕ) (st : State) (T : List A) : Type 0 where
    no : (e : End) → Refuses e → ((m : ℕ) (x : List ℕ) → call form f m x st T ≡ refused st T e) → Came n s st T
    long : limit < st.at + length s → ((m : ℕ) → call form f m s st T ≡ refused st T End.TooLong) → Came n s st T
    yes : (filter : Filter) → st.used ≤ form.holds (length T) → st.at + length s ≤ limit
        → ((m : ℕ) (x : List ℕ) (st : State) (T : List A) → call form f m x st T ≡ checked form f filter m x st T)
        → ((m : ℕ) → call form f m s st T ≡ ahead form f filter m s st T) → Came n s st T

  pub came : (n : ℕ) (s : List ℕ) (st : State) (T : List A) → Came n s st T
  came n s st T = by (filter_of f) refl
    where
      third : (filter : Filter) → ((m : ℕ) (x : List ℕ) (st : State) (T : List A) → call form f m x st T ≡ checked form f filter m x st T) → st.used ≤ form.holds (length T)
          → (b : Bool) → ltb limit (st.at + length s) ≡ b → Came n s st T
      third filter g h true e = long (ltb-true _ _ e) (λ m. g m s st T ∙ too_long form f m s st T filter h e)
      third filter g h false e = yes filter h (ltb-false _ _ e) g (λ m. g m s st T ∙ goes_ahead form f m s st T filter h e)

      second : (filter : Filter) → ((m : ℕ) (x : List ℕ) (st : State) (T : List A) → call form f m x st T ≡ checked form f filter m x st T)
          → (b : Bool) → ltb (form.holds (length T)) st.used ≡ b → Came n s st T
      second filter g true e = no End.BadState tt (λ m x. g m x st T ∙ bad_state form f m x st T filter (ltb-true _ _ e))
      second filter g false e = third filter g (ltb-false _ _ e) (ltb limit (st.at + length s)) refl

      by : (v : Result Filter FilterError) → filter_of f ≡ v → Came n s st T
      by (Ok filter) e = second filter (λ m x st T. good_filter form f m x st T (filter_of f) filter refl e) (ltb (form.holds (length T)) st.used) refl
      by (Err FilterError.Retired) e = no End.RetiredTag tt (λ m x. retired_tag_lem form f m x st T (filter_of f) refl e)
      by (Err FilterError.Bad) e = no End.BadFilter tt (λ m x. bad_filter_lem form f m x st T (filter_of f) refl e)

  -- the resume position moves forward, within the bytes given
  pub onward : (n : ℕ) (s : List ℕ) (st : State) (T : List A) → (st.at ≤ (call form f n s st T).answer.state.at) × ((call form f n s st T).answer.state.at ≤ st.at + length s)
  onward n s st T = by (came n s st T)
    where
      by : Came n s st T → (st.at ≤ (call form f n s st T).answer.state.at) × ((call form f n s st T).answer.state.at ≤ st.at + length s)
      by (no e a q) = rw (q n s) (omega arith)
      by (long l q) = rw (q n) (omega arith)
      by (yes filter h l g q) = rw (q n, ahead_so form sound f filter n s st T) (way form sound f filter n s st T)

  -- the entries used grow by the number taken
  pub counted : (n : ℕ) (s : List ℕ) (st : State) (T : List A) → (call form f n s st T).answer.state.used ≡ st.used + (call form f n s st T).answer.taken
  counted n s st T = by (came n s st T)
    where
      by : Came n s st T → (call form f n s st T).answer.state.used ≡ st.used + (call form f n s st T).answer.taken
      by (no e a q) = rw (q n s) (omega arith)
      by (long l q) = rw (q n) (omega arith)
      by (yes filter h l g q) = rw (q n, ahead_so form sound f filter n s st T)

  -- entries that were written stay
  pub kept_before_lem : (n : ℕ) (s : List ℕ) (st : State) (T : List A) → take (form.width * st.used) (call form f n s st T).table ≡ take (form.width * st.used) T
  kept_before_lem n s st T = by (came n s st T)
    where
      by : Came n s st T → take (form.width * st.used) (call form f n s st T).table ≡ take (form.width * st.used) T
      by (no e a q) = rw (q n s)
      by (long l q) = rw (q n)
      by (yes filter h l g q) =
          rw (q n, ahead_so form sound f filter n s st T)
          (over_before T (form.width * st.used) (written form sound f filter n s st T) (omega (arith, fits form sound f filter n s st T h, wide form sound f filter n s st T h)))

  -- entries beyond those used keep what they held
  pub kept_behind : (n : ℕ) (s : List ℕ) (st : State) (T : List A)
      → drop (form.width * (call form f n s st T).answer.state.used) (call form f n s st T).table ≡ drop (form.width * (call form f n s st T).answer.state.used) T
  kept_behind n s st T = by (came n s st T)
    where
      by : Came n s st T → drop (form.width * (call form f n s st T).answer.state.used) (call form f n s st T).table ≡ drop (form.width * (call form f n s st T).answer.state.used) T
      by (no e a q) = rw (q n s)
      by (long l q) = rw (q n)
      by (yes filter h l g q) =
          rw (q n, ahead_so form sound f filter n s st T, wide form sound f filter n s st T h)
          (over_behind T (form.width * st.used) (written form sound f filter n s st T) (omega (arith, fits form sound f filter n s st T h, wide form sound f filter n s st T h)))

  -- DEMAND 3: a call with any limit, and then one without, with more bytes added: entries, resume position and answer are those of one call without a
  -- limit over all of them, and the numbers taken add up to its number
  pub demand_3 : (n : ℕ) (s t : List ℕ) (st : State) (T : List A) → st.at + length (s ++ t) ≤ limit
      → next form f unlimited (s ++ t) st (call form f n s st T) ≡ whole form f (s ++ t) st T
  demand_3 n s t st T l = by (came n s st T)
    where
      by : Came n s st T → next form f unlimited (s ++ t) st (call form f n s st T) ≡ whole form f (s ++ t) st T
      by (no e a q) = ap (next form f unlimited (s ++ t) st) (q n s) ∙ ap (adding 0) (q unlimited _) ∙ sym (q unlimited (s ++ t))
      by (long m q) = absurd (omega (arith, length-append s t))
      by (yes filter h m g q) =
          ap (next form f unlimited (s ++ t) st) (q n ∙ ahead_so form sound f filter n s st T)
          ∙ ap (adding (length (out form sound f filter n s st T).entries)) (g unlimited _ _ _)
          ∙ rw (ahead_so form sound f filter n s st T) at (twice form sound f filter n s t st T h l)
          ∙ sym (g unlimited (s ++ t) st T)

  -- what is left of a trace from the new resume position on, with t added
  left_over : (n : ℕ) (s t : List ℕ) (st : State) (T : List A)
      → drop ((call form f n s st T).answer.state.at - st.at) s ++ t ≡ drop ((call form f n s st T).answer.state.at - st.at) (s ++ t)
  left_over n s t st T = sym (drop-append-le ((call form f n s st T).answer.state.at - st.at) s t (omega (arith, onward n s st T)))

  -- the same over a trace: of the old bytes only those from the resume position on need be unchanged, and t is added at the end
  pub resumed : (n : ℕ) (old new t : List ℕ) (st : State) (T : List A) → st.at + length (drop st.at old ++ t) ≤ limit
      → drop (over_trace form f n old st T).answer.state.at new ≡ drop (over_trace form f n old st T).answer.state.at old ++ t
      → adding (over_trace form f n old st T).answer.taken (over_trace form f unlimited new (over_trace form f n old st T).answer.state (over_trace form f n old st T).table)
      ≡ whole form f (drop st.at old ++ t) st T
  resumed n old new t st T l e =
      let s = drop st.at old in
      let a = call form f n s st T in
      let d : drop (a.answer.state.at - st.at) s ≡ drop a.answer.state.at old =
      drop-drop (a.answer.state.at - st.at) st.at old
      ∙ (let p : st.at + (a.answer.state.at - st.at) ≡ a.answer.state.at = omega (arith, onward n s st T) in ap (λ (k : ℕ). drop k old) p) in
      ap (λ (x : List ℕ). adding a.answer.taken (call form f unlimited x a.answer.state a.table)) (e ∙ ap (λ (x : List ℕ). x ++ t) (sym d) ∙ left_over n s t st T)
      ∙ demand_3 n s t st T l

  -- the same for any number of calls, with any limits and any bytes in between
  pub in_parts : (ps : List (ℕ × List ℕ)) (s : List ℕ) (st : State) (T : List A) → st.at + length (s ++ joined ps) ≤ limit
      → calls form f s st T ps ≡ whole form f (s ++ joined ps) st T
  unfolding calls
  in_parts [] s st T l = ap (λ (x : List ℕ). whole form f x st T) (sym (append-nil s))
  in_parts (p ∷ ps) s st T l =
      let t = p.1 in
      let a = call form f p.0 s st T in
      let d = a.answer.state.at - st.at in
      let all : (drop d s ++ t) ++ joined ps ≡ drop d (s ++ (t ++ joined ps)) = append_assoc (drop d s) t (joined ps) ∙ left_over p.0 s (t ++ joined ps) st T in
      ap (adding a.answer.taken)
      (in_parts ps (drop d s ++ t) a.answer.state a.table
      (rw all (omega (arith, length-drop d (s ++ (t ++ joined ps)), length-append s (t ++ joined ps), onward p.0 s st T)))
      ∙ ap (λ (x : List ℕ). whole form f x a.answer.state a.table) all)
      ∙ demand_3 p.0 s (t ++ joined ps) st T l

  -- ---- limits

  -- a limit above the number of bytes is as good as none
  pub no_limit : (n : ℕ) (s : List ℕ) (st : State) (T : List A) → length s < n → call form f n s st T ≡ whole form f s st T
  no_limit n s st T h = by (came n s st T)
    where
      by : Came n s st T → call form f n s st T ≡ whole form f s st T
      by (no e a q) = q n s ∙ sym (q unlimited s)
      by (long l q) = q n ∙ sym (q unlimited)
      by (yes filter free l c q) =
          q n
          ∙ ahead_so form sound f filter n s st T
          ∙ ap (laid form T st.used) (enough (asked f filter) (fair f filter) n unlimited (form.holds (length T) - st.used) st.at s h (omega arith))
          ∙ sym (ahead_so form sound f filter unlimited s st T)
          ∙ sym (q unlimited)

  -- a call that stops after n, and where it was Paused one that stops after m, is one call that stops after n + m
  pub in_a_row : (n m : ℕ) (s : List ℕ) (st : State) (T : List A)
      → unless_paused (call form f n s st T).answer.end (call form f n s st T) (next form f m s st (call form f n s st T)) ≡ call form f (n + m) s st T
  in_a_row n m s st T = by (came n s st T)
    where
      then : Outcome A → Outcome A
      then a = unless_paused a.answer.end a (next form f m s st a)

      ends : (e : End) (a more : Outcome A) → Refuses e → unless_paused e a more ≡ a
      ends End.BadFilter a more h = refl
      ends End.RetiredTag a more h = refl
      ends End.BadState a more h = refl
      ends End.TooLong a more h = refl
      ends End.Full a more h = absurd h
      ends End.Paused a more h = absurd h
      ends (End.Waits need) a more h = absurd h

      by : Came n s st T → then (call form f n s st T) ≡ call form f (n + m) s st T
      by (no e a q) = ap then (q n s) ∙ ends e (refused st T e) (next form f m s st (refused st T e)) a ∙ sym (q (n + m) s)
      by (long l q) = ap then (q n) ∙ sym (q (n + m))
      by (yes filter h l g q) =
          ap then (q n ∙ ahead_so form sound f filter n s st T)
          ∙ ap (λ (x : Outcome A). unless_paused (end_of (out form sound f filter n s st T).ends) (laid form T st.used (out form sound f filter n s st T)) (adding (length (out form sound f filter n s st T).entries) x)) (g m _ _ _)
          ∙ rw (ahead_so form sound f filter n s st T) at (twice_limited form sound f filter n m s st T h l)
          ∙ sym (g (n + m) s st T)

  -- THE LOOP of calls with limits, until an answer isn't Paused, is one call with the sum of the limits
  pub in_portions : (ns : List ℕ) (s : List ℕ) (st : State) (T : List A) → repeated form f s st T ns ≡ call form f (total ns) s st T
  unfolding repeated
  in_portions [] s st T = refl
  in_portions (n ∷ ns) s st T =
      let a = call form f n s st T in
      ap (λ (x : Outcome A). unless_paused a.answer.end a (adding a.answer.taken x)) (in_portions ns (drop (a.answer.state.at - st.at) s) a.answer.state a.table)
      ∙ in_a_row n (total ns) s st T

  high : (ns : List ℕ) → Above ns → length ns ≤ total ns
  high [] h = omega arith
  high (n ∷ ns) h = omega (arith, high ns h.1)

  -- so with limits above 0 it ends as one call without a limit, and its numbers add up to that call's; as many calls as there are bytes, and one, are enough
  pub repeated_calls : (ns : List ℕ) (s : List ℕ) (st : State) (T : List A) → Above ns → length s < length ns → repeated form f s st T ns ≡ whole form f s st T
  repeated_calls ns s st T h g = in_portions ns s st T ∙ no_limit (total ns) s st T (omega (arith, high ns h))

  -- A loop over a trace is cancelled behind some of its calls (ns), and goes on later (ms): of the old bytes only those from the resume position on need be
  -- unchanged, and t is added at the end. It ends as the loop that was not cancelled (ks) does over all the bytes
  pub cancelled : (ns ms ks : List ℕ) (old new t : List ℕ) (st : State) (T : List A) → st.at + length (drop st.at old ++ t) ≤ limit
      → drop (repeated form f (drop st.at old) st T ns).answer.state.at new ≡ drop (repeated form f (drop st.at old) st T ns).answer.state.at old ++ t
      → Above ms → length (drop (repeated form f (drop st.at old) st T ns).answer.state.at new) < length ms
      → Above ks → length (drop st.at old ++ t) < length ks
      → adding (repeated form f (drop st.at old) st T ns).answer.taken
      (repeated form f (drop (repeated form f (drop st.at old) st T ns).answer.state.at new)
      (repeated form f (drop st.at old) st T ns).answer.state (repeated form f (drop st.at old) st T ns).table ms)
      ≡ repeated form f (drop st.at old ++ t) st T ks
  cancelled ns ms ks old new t st T l e hm gm hk gk =
      go (repeated form f (drop st.at old) st T ns) (in_portions ns (drop st.at old) st T) e gm
      ∙ sym (repeated_calls ks (drop st.at old ++ t) st T hk gk)
    where
      go : (a : Outcome A) → a ≡ over_trace form f (total ns) old st T → drop a.answer.state.at new ≡ drop a.answer.state.at old ++ t
          → length (drop a.answer.state.at new) < length ms
          → adding a.answer.taken (repeated form f (drop a.answer.state.at new) a.answer.state a.table ms) ≡ whole form f (drop st.at old ++ t) st T
      go a is same few =
          let b = over_trace form f (total ns) old st T in
          let same' = rw is at same in
          let few' = rw is at few in
          let n = total ns in
          ap (λ (x : Outcome A). adding x.answer.taken (repeated form f (drop x.answer.state.at new) x.answer.state x.table ms)) is
          ∙ ap (adding b.answer.taken) (repeated_calls ms (drop b.answer.state.at new) b.answer.state b.table hm few')
          ∙ resumed n old new t st T l same'

  -- a call that stops after 0 changes nothing, and unless it is refused it is Paused
  stops_at_once : (s : List ℕ) (st : State) (T : List A) (filter : Filter) → ahead form f filter 0 s st T ≡ refused st T End.Paused
  unfolding ahead run
  stops_at_once s st T filter = rw (over_none, add-zero)

  pub zero_pauses : (s : List ℕ) (st : State) (T : List A) (filter : Filter) → filter_of f ≡ Ok filter → st.used ≤ form.holds (length T) → st.at + length s ≤ limit
      → call form f 0 s st T ≡ refused st T End.Paused
  zero_pauses s st T filter e h l =
      good_filter form f 0 s st T (filter_of f) filter refl e ∙ goes_ahead form f 0 s st T filter h (le-ltb _ _ l) ∙ stops_at_once s st T filter

  pub zero_keeps : (s : List ℕ) (st : State) (T : List A) → call form f 0 s st T ≡ refused st T (call form f 0 s st T).answer.end
  zero_keeps s st T = by (came 0 s st T)
    where
      by : Came 0 s st T → call form f 0 s st T ≡ refused st T (call form f 0 s st T).answer.end
      by (no e a q) = rw (q 0 s)
      by (long l q) = rw (q 0)
      by (yes filter h l g q) = rw (q 0 ∙ stops_at_once s st T filter)

  -- ---- what a need is for

  -- a walk that stops behind entries
  laid_stops : (T : List A) (used : ℕ) (e : Ends ℕ) (o o' : Out ℕ ℕ) → o' ≡ after o.entries (stop o.at e)
      → laid form T used o'
      ≡ record { answer = record { state = (laid form T used o).answer.state; taken = length o.entries; end = end_of e }; table = (laid form T used o).table }
  laid_stops T used e o o' q = rw (q, append-nil)

  waiting : (e : Ends ℕ) (v : ℕ) → end_of e ≡ End.Waits v → e ≡ Ends.Waits v
  waiting Ends.Paused v z = absurd (omega (arith, ap number_of z))
  waiting Ends.Full v z = absurd (omega (arith, ap number_of z))
  waiting (Ends.Waits m) v z = cc

  -- fewer bytes than the need, and nothing is written, and it waits where it did
  pub still_waits : (n : ℕ) (s t : List ℕ) (st : State) (T : List A) (v : ℕ) → st.at + length (s ++ t) ≤ limit → (call form f n s st T).answer.end ≡ End.Waits v → length t < v
      → (u : ℕ)
      × (call form f n (s ++ t) st T ≡ record { answer = record { state = (call form f n s st T).answer.state; taken = (call form f n s st T).answer.taken; end = End.Waits u }; table = (call form f n s st T).table })
  still_waits n s t st T v l w few = by (came n s st T)
    where
      so : ℕ → Outcome A → Outcome A
      so u x = record { answer = record { state = x.answer.state; taken = x.answer.taken; end = End.Waits u }; table = x.table }

      by : Came n s st T → (u : ℕ) × (call form f n (s ++ t) st T ≡ so u (call form f n s st T))
      by (no e a q) = absurd (subst Refuses (sym (ap (λ (o : Outcome A). o.answer.end) (q n s)) ∙ w) a)
      by (long m q) = absurd (omega (arith, length-append s t))
      by (yes filter h m g q) =
          let o = out form sound f filter n s st T in
          let is = q n ∙ ahead_so form sound f filter n s st T in
          let z : o.ends ≡ Ends.Waits v = waiting o.ends v (sym (ap (λ (x : Outcome A). x.answer.end) is) ∙ w) in
          let (u, e) = walks.still_waits (asked f filter) (fair f filter) (λ v. v) (patient f filter) n (form.holds (length T)) st.at st.used s t v z few in (
            u,
            g n (s ++ t) st T
                ∙ goes_ahead form f n (s ++ t) st T filter h (le-ltb _ _ l)
                ∙ ahead_so form sound f filter n (s ++ t) st T
                ∙ laid_stops T st.used (Ends.Waits u) o (walk_of f filter n (s ++ t) st (form.holds (length T))) e
                ∙ ap (so u) (sym is),
          )

  -- a walk that went on past where it waited, as the call has it
  module _ (n : ℕ) (s t : List ℕ) (st : State) (T : List A) (filter : Filter) (h : st.used ≤ form.holds (length T)) (l : st.at + length (s ++ t) ≤ limit)
      (is : (x : List ℕ) → st.at + length x ≤ limit → call form f n x st T ≡ laid form T st.used (out form sound f filter n x st T)) where
    abbrev before : Out ℕ ℕ
    before = out form sound f filter n s st T

    short : st.at + length s ≤ limit
    short = omega (arith, length-append s t)

    -- with room for an entry or without
    past : (k len i room : ℕ) (go : ℕ → ℕ → Out ℕ ℕ) → form.holds (length T) - st.used - length before.entries ≡ room
        → out form sound f filter n (s ++ t) st T ≡ after before.entries (turn (Take k len i) room before.at go) → WaitOver (form.holds (length T)) (call form f n s st T) (call form f n (s ++ t) st T)
    past k len i zero go r e =
        WaitOver.none_free (omega (arith, ap (λ (o : Outcome A). o.answer.state.used) (is s short), r, room form sound f filter n s st T h))
        (is (s ++ t) l ∙ laid_stops T st.used Ends.Full before (out form sound f filter n (s ++ t) st T) e ∙ sym (ap so (is s short)))
      where
        so : Outcome A → Outcome A
        so x = record { answer = record { state = x.answer.state; taken = x.answer.taken; end = End.Full }; table = x.table }
    past k len i (suc r') go r e =
        WaitOver.one_more (omega (
          arith,
          ap (λ (o : Outcome A). o.answer.state.used) (is s short),
          ap (λ (o : Outcome A). o.answer.state.used) (is (s ++ t) l),
          ap (λ (o : Out ℕ ℕ). length o.entries) e,
          length-append before.entries (turn (Take k len i) (suc r') before.at go).entries,
        ))

  -- a call that waits: so the rule said of the bytes from the new resume position on
  waits_there : (n : ℕ) (s : List ℕ) (st : State) (T : List A) (v : ℕ) → (call form f n s st T).answer.end ≡ End.Waits v
      → (filter : Filter) × (asked f filter (drop ((call form f n s st T).answer.state.at - st.at) s) ≡ Wait v)
  waits_there n s st T v w = by (came n s st T)
    where
      by : Came n s st T → (filter : Filter) × (asked f filter (drop ((call form f n s st T).answer.state.at - st.at) s) ≡ Wait v)
      by (no e a q) = absurd (subst Refuses (sym (ap (λ (o : Outcome A). o.answer.end) (q n s)) ∙ w) a)
      by (long m q) = absurd (omega (arith, ap number_of (sym (ap (λ (o : Outcome A). o.answer.end) (q n)) ∙ w)))
      by (yes filter h m _ goes) =
          let is : call form f n s st T ≡ laid form T st.used (out form sound f filter n s st T) = goes n ∙ ahead_so form sound f filter n s st T in
          let o = out form sound f filter n s st T in
          let at : (call form f n s st T).answer.state.at ≡ o.at = ap (λ (x : Outcome A). x.answer.state.at) is in
          let ends : o.ends ≡ Ends.Waits v = waiting o.ends v (sym (ap (λ (x : Outcome A). x.answer.end) is) ∙ w) in
          (filter, rw at (waits_at (asked f filter) v (walked (asked f filter) n (form.holds (length T) - st.used) st.at s) ends))

  -- NO WAIT PAST A DECLARED END: where the call waits with need v behind a standard header that is accepted, it is for declared bytes, and for one at least
  pub never_past : (n : ℕ) (s : List ℕ) (st : State) (T : List A) (v k : ℕ) (h : StandardHeader) (b : ℕ) → (call form f n s st T).answer.end ≡ End.Waits v
      → find pattern (drop ((call form f n s st T).answer.state.at - st.at) s) 0 ≡ Some k
      → standard (drop ((call form f n s st T).answer.state.at - st.at) s) (k + 16) ≡ done h b
      → (1 ≤ v) × (length (drop ((call form f n s st T).answer.state.at - st.at) s) + v ≤ k + 16 + overall_length_of h)
  never_past n s st T v k h b w found accepted =
      let (filter, e) = waits_there n s st T v w in
      (at_least_one f filter _ k h b v found accepted e, declared.never_past f filter _ k h b v found accepted e)

  -- where the call waits with need v and the headers that stand there are read, verbose or not: exactly v bytes more, of any value
  pub worth_the_wait : (n : ℕ) (s t : List ℕ) (st : State) (T : List A) (v : ℕ) (l : Opening) (behind : ℕ) → st.at + length (s ++ t) ≤ limit
      → (call form f n s st T).answer.end ≡ End.Waits v
      → opening true (drop ((call form f n s st T).answer.state.at - st.at) s) 0 ≡ done l behind
      → length t ≡ v → WaitOver (form.holds (length T)) (call form f n s st T) (call form f n (s ++ t) st T)
  worth_the_wait n s t st T v l behind g w read enough = by (came n s st T) (filter_of f) refl
    where
      by : Came n s st T → (x : Result Filter FilterError) → filter_of f ≡ x → WaitOver (form.holds (length T)) (call form f n s st T) (call form f n (s ++ t) st T)
      by (no e a q) x z = absurd (subst Refuses (sym (ap (λ (o : Outcome A). o.answer.end) (q n s)) ∙ w) a)
      by (long m q) x z = absurd (omega (arith, length-append s t))
      by (yes _ h m _ _) (Err FilterError.Retired) z = absurd (omega (arith, ap number_of (sym (ap (λ (o : Outcome A). o.answer.end) (retired_tag_lem form f n s st T (filter_of f) refl z)) ∙ w)))
      by (yes _ h m _ _) (Err FilterError.Bad) z = absurd (omega (arith, ap number_of (sym (ap (λ (o : Outcome A). o.answer.end) (bad_filter_lem form f n s st T (filter_of f) refl z)) ∙ w)))
      by (yes _ h m _ _) (Ok filter) z =
          let is : (x : List ℕ) → st.at + length x ≤ limit → call form f n x st T ≡ laid form T st.used (out form sound f filter n x st T) =
          λ x y. good_filter form f n x st T (filter_of f) filter refl z ∙ goes_ahead form f n x st T filter h (le-ltb _ _ y) ∙ ahead_so form sound f filter n x st T in
          let o = out form sound f filter n s st T in
          let at : (call form f n s st T).answer.state.at ≡ o.at = ap (λ (x : Outcome A). x.answer.state.at) (is s m) in
          let ends : o.ends ≡ Ends.Waits v = waiting o.ends v (sym (ap (λ (x : Outcome A). x.answer.end) (is s m)) ∙ w) in
          let left = drop (o.at - st.at) s in
          let waits = waits_at (asked f filter) v (walked (asked f filter) n (form.holds (length T) - st.used) st.at s) ends in
          let (k, len, i, e) = worth_an_entry f filter left v l behind waits (rw at at read) t enough in
          let (m', p) = walks.goes_past (asked f filter) (fair f filter) n (form.holds (length T)) st.at st.used s t v ends e in
          past n s t st T filter h g is k len i _ _ refl p
