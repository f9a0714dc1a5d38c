-- What is proved of the call at any form of table, at this one: each line cites index's theorem. Assumes nothing.
use Prim.Native.Nat.{ℕ, ◌+◌, ◌-◌, ◌<◌, ◌≤◌}
use mathlib.Core.Path.{◌≡◌}
use mathlib.Core.List.{List, ◌++◌}
use native.Mathlib.Nat.{one-mul}
use lib.ListN.{length, take, drop}
use mathlib.Core.Bool.{true}
use Rattle.wire.specs.Answer.Ans.{done}
use Rattle.mark.specs.First.{pattern, find}
use Rattle.std.specs.Prelude.{Some}
use Rattle.headertype.specs.HeaderType.{overall_length_of}
use Rattle.headertype.specs.declared.StandardHeader.{StandardHeader}
use Rattle.headers.specs.Standard.{standard}
use Rattle.worth.specs.Opening.{Opening, opening}
use Rattle.walk.specs.Walk.{Ends}
use Rattle.index.specs.Index.{limit, Refuses, end_of, refused, walk_of, call}
use Rattle.index.specs.Calls.{unlimited, whole, adding, next, over_trace, calls, joined, repeated, Above, total, WaitOver, SameEntries, Alike}
use Rattle.index.specs.declared.State.{State}
use Rattle.index.specs.declared.End.{End}
use Rattle.index.proofs.Promises as any
use Rattle.index.proofs.Unused as unused
use Rattle.entries.specs.Form.{entry_form}
use Rattle.entries.specs.declared.Entry.{Entry}
use Rattle.entries.proofs.Turns.{entry_sound}

-- a walk ends in none of the refusals
no_refusal : (x : Ends ℕ) → Refuses (end_of x) → ⊥
no_refusal Ends.Paused r = r
no_refusal Ends.Full r = r
no_refusal (Ends.Waits need) r = r

module _ (f : List ℕ) where
  -- a refusal (1, 13, 5, 6) hands back the state that it was given, and changes no lent entry
  pub refusals : (n : ℕ) (s : List ℕ) (st : State) (T : List Entry)
      → Refuses (call entry_form f n s st T).answer.end
      → call entry_form f n s st T ≡ refused st T (call entry_form f n s st T).answer.end
  refusals n s st T r = by (any.came entry_form entry_sound f n s st T)
    where
      by : any.Came entry_form entry_sound f n s st T → call entry_form f n s st T ≡ refused st T (call entry_form f n s st T).answer.end
      by (any.no e a q) = rw (q n s)
      by (any.long l q) = rw (q n)
      by (any.yes filter h l g q) =
          absurd (no_refusal (walk_of f filter n s st (length T)).ends (rw (q n, any.ahead_so entry_form entry_sound f filter n s st T) at r))

  -- demand 3: two calls, with more bytes for the second; over a trace; and any number of calls
  pub demand_3 : (n : ℕ) (s t : List ℕ) (st : State) (T : List Entry) → st.at + length (s ++ t) ≤ limit
      → next entry_form f unlimited (s ++ t) st (call entry_form f n s st T) ≡ whole entry_form f (s ++ t) st T
  demand_3 = any.demand_3 entry_form entry_sound f

  pub resumed : (n : ℕ) (old new t : List ℕ) (st : State) (T : List Entry) → st.at + length (drop st.at old ++ t) ≤ limit
      → drop (over_trace entry_form f n old st T).answer.state.at new ≡ drop (over_trace entry_form f n old st T).answer.state.at old ++ t
      → adding (over_trace entry_form f n old st T).answer.taken
      (over_trace entry_form f unlimited new (over_trace entry_form f n old st T).answer.state (over_trace entry_form f n old st T).table)
      ≡ whole entry_form f (drop st.at old ++ t) st T
  resumed = any.resumed entry_form entry_sound f

  pub in_parts : (ps : List (ℕ × List ℕ)) (s : List ℕ) (st : State) (T : List Entry) → st.at + length (s ++ joined ps) ≤ limit
      → calls entry_form f s st T ps ≡ whole entry_form f (s ++ joined ps) st T
  in_parts = any.in_parts entry_form entry_sound f

  -- limits: calls until an answer isn't Paused; a loop that is cancelled and goes on later; a limit that is none; the number taken; a limit of 0
  pub in_portions : (ns : List ℕ) (s : List ℕ) (st : State) (T : List Entry) → repeated entry_form f s st T ns ≡ call entry_form f (total ns) s st T
  in_portions = any.in_portions entry_form entry_sound f

  pub repeated_calls : (ns : List ℕ) (s : List ℕ) (st : State) (T : List Entry) → Above ns → length s < length ns → repeated entry_form f s st T ns ≡ whole entry_form f s st T
  repeated_calls = any.repeated_calls entry_form entry_sound f

  pub cancelled : (ns ms ks : List ℕ) (old new t : List ℕ) (st : State) (T : List Entry) → st.at + length (drop st.at old ++ t) ≤ limit
      → drop (repeated entry_form f (drop st.at old) st T ns).answer.state.at new ≡ drop (repeated entry_form f (drop st.at old) st T ns).answer.state.at old ++ t
      → Above ms → length (drop (repeated entry_form f (drop st.at old) st T ns).answer.state.at new) < length ms
      → Above ks → length (drop st.at old ++ t) < length ks
      → adding (repeated entry_form f (drop st.at old) st T ns).answer.taken
      (repeated entry_form f (drop (repeated entry_form f (drop st.at old) st T ns).answer.state.at new)
      (repeated entry_form f (drop st.at old) st T ns).answer.state (repeated entry_form f (drop st.at old) st T ns).table ms)
      ≡ repeated entry_form f (drop st.at old ++ t) st T ks
  cancelled = any.cancelled entry_form entry_sound f

  pub no_limit : (n : ℕ) (s : List ℕ) (st : State) (T : List Entry) → length s < n → call entry_form f n s st T ≡ whole entry_form f s st T
  no_limit = any.no_limit entry_form entry_sound f

  pub counted : (n : ℕ) (s : List ℕ) (st : State) (T : List Entry) → (call entry_form f n s st T).answer.state.used ≡ st.used + (call entry_form f n s st T).answer.taken
  counted = any.counted entry_form entry_sound f

  pub zero_keeps : (s : List ℕ) (st : State) (T : List Entry) → call entry_form f 0 s st T ≡ refused st T (call entry_form f 0 s st T).answer.end
  zero_keeps = any.zero_keeps entry_form entry_sound f

  -- what a need is for
  pub still_waits : (n : ℕ) (s t : List ℕ) (st : State) (T : List Entry) (v : ℕ) → st.at + length (s ++ t) ≤ limit → (call entry_form f n s st T).answer.end ≡ End.Waits v → length t < v
      → (u : ℕ)
      × (call entry_form f n (s ++ t) st T
      ≡ record { answer = record { state = (call entry_form f n s st T).answer.state; taken = (call entry_form f n s st T).answer.taken; end = End.Waits u }; table = (call entry_form f n s st T).table })
  still_waits = any.still_waits entry_form entry_sound f

  -- and what it is worth
  pub worth_the_wait : (n : ℕ) (s t : List ℕ) (st : State) (T : List Entry) (v : ℕ) (l : Opening) (behind : ℕ) → st.at + length (s ++ t) ≤ limit
      → (call entry_form f n s st T).answer.end ≡ End.Waits v
      → opening true (drop ((call entry_form f n s st T).answer.state.at - st.at) s) 0 ≡ done l behind
      → length t ≡ v → WaitOver (length T) (call entry_form f n s st T) (call entry_form f n (s ++ t) st T)
  worth_the_wait = any.worth_the_wait entry_form entry_sound f

  -- it is never for a byte past a declared end
  pub never_past : (n : ℕ) (s : List ℕ) (st : State) (T : List Entry) (v k : ℕ) (h : StandardHeader) (b : ℕ) → (call entry_form f n s st T).answer.end ≡ End.Waits v
      → find pattern (drop ((call entry_form f n s st T).answer.state.at - st.at) s) 0 ≡ Some k
      → standard (drop ((call entry_form f n s st T).answer.state.at - st.at) s) (k + 16) ≡ done h b
      → (1 ≤ v) × (length (drop ((call entry_form f n s st T).answer.state.at - st.at) s) + v ≤ k + 16 + overall_length_of h)
  never_past = any.never_past entry_form entry_sound f

  -- entries that were written stay, and so do those beyond the ones used
  pub kept_before_lem : (n : ℕ) (s : List ℕ) (st : State) (T : List Entry) → take st.used (call entry_form f n s st T).table ≡ take st.used T
  kept_before_lem n s st T = rw one-mul at (any.kept_before_lem entry_form entry_sound f n s st T)

  pub kept_behind : (n : ℕ) (s : List ℕ) (st : State) (T : List Entry)
      → drop (call entry_form f n s st T).answer.state.used (call entry_form f n s st T).table ≡ drop (call entry_form f n s st T).answer.state.used T
  kept_behind n s st T = rw one-mul at (any.kept_behind entry_form entry_sound f n s st T)

  -- whatever stands in the places that no entry uses, answers and entries are the same; so demand 3 holds where a host wrote there between the calls
  pub same_entries : (n : ℕ) (s : List ℕ) (st : State) (T U : List Entry) → SameEntries entry_form st.used T U → Alike entry_form (call entry_form f n s st T) (call entry_form f n s st U)
  same_entries = unused.same_entries entry_form entry_sound f

  pub written_between : (n : ℕ) (s t : List ℕ) (st : State) (T U : List Entry) → st.at + length (s ++ t) ≤ limit
      → SameEntries entry_form (call entry_form f n s st T).answer.state.used (call entry_form f n s st T).table U
      → Alike entry_form (whole entry_form f (s ++ t) st T)
      (adding (call entry_form f n s st T).answer.taken
      (call entry_form f unlimited (drop ((call entry_form f n s st T).answer.state.at - st.at) (s ++ t)) (call entry_form f n s st T).answer.state U))
  written_between = unused.written_between entry_form entry_sound f
