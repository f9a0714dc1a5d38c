-- Document 01, "The trace index": the call. The refusals in their order, and then the walk, laid down in the table. It stops after n entries, if it
-- doesn't end before.
use Rattle.std.specs.Prelude.{ℕ, ◌+◌, ◌*◌, ◌/◌, ◌≤◌, ◌≡◌, List, [], ◌∷◌, length, ltb, Result, Ok, Err}
use Rattle.wire.specs.Answer.{Carried, Numbered, bad_filter, retired_tag, carried_number}
use Rattle.wire.specs.Parser.{pick}
use Rattle.filter.specs.Filter.{filter_of}
use Rattle.filter.specs.declared.Filter.{Filter}
use Rattle.filter.specs.declared.FilterError.{FilterError}
use Rattle.walk.specs.Walk.{Entry, Ends, Out, walk}
use Rattle.walk.specs.Table.{Done, finish}
use Rattle.step.specs.Step.{asked}
use Rattle.index.specs.declared.State.{State}
use Rattle.index.specs.declared.Indexed.{Indexed}
use Rattle.index.specs.declared.End.{End}

-- resume position plus bytes given may not exceed this
abbrev pub limit : ℕ
limit = 4294967295

-- how entries lie in a table: so many elements to an entry, which ones, and how many entries a table of n elements holds
pub record Form (A : Type 0) : Type 0 where
  pub width : ℕ
  pub cells : Entry ℕ → List A
  pub holds : ℕ → ℕ

-- what is asked of a form
pub record Sound {A : Type 0} (form : Form A) : Type 0 where
  pub wide : (e : Entry ℕ) → length (form.cells e) ≡ form.width
  pub fits : (n : ℕ) → form.width * form.holds n ≤ n

-- a flat table of numbers: start, skipped, length, kind; a last piece of fewer than four holds no entry
abbrev pub flat_form : Form ℕ
flat_form = record { width = 4; cells = λ e. e.start ∷ e.skipped ∷ e.len ∷ e.info ∷ []; holds = λ n. n / 4 }

-- document 01's number of each answer, and what it carries besides the state: waits (done) the need
abbrev pub numbered_end : End → Numbered Unit
numbered_end End.BadFilter = bad_filter
numbered_end End.RetiredTag = retired_tag
numbered_end End.BadState = record { number = 5; carries = Carried.nothing }
numbered_end End.TooLong = record { number = 6; carries = Carried.nothing }
numbered_end End.Full = record { number = 7; carries = Carried.nothing }
numbered_end End.Paused = record { number = 8; carries = Carried.nothing }
numbered_end (End.Waits need) = record { number = 0; carries = Carried.need need }

-- the answers that refuse a call: 1, 13, 5, 6. The others stand where its walk stops
abbrev pub Refuses : End → Type 0
Refuses End.BadFilter = Unit
Refuses End.RetiredTag = Unit
Refuses End.BadState = Unit
Refuses End.TooLong = Unit
Refuses End.Full = ⊥
Refuses End.Paused = ⊥
Refuses (End.Waits need) = ⊥

-- as two numbers
abbrev pub number_of : End → ℕ
number_of e = (numbered_end e).number

abbrev pub need_of : End → ℕ
need_of e = carried_number (λ u. 0) (numbered_end e).carries

-- the call's answer for the walk's
abbrev pub end_of : Ends ℕ → End
end_of Ends.Paused = End.Paused
end_of Ends.Full = End.Full
end_of (Ends.Waits need) = End.Waits need

-- all that a call determines: its answer, and the table as it leaves it
pub record Outcome (A : Type 0) : Type 0 where
  pub answer : Indexed
  pub table : List A

-- where a walk stops, with so many entries taken in this call
abbrev pub stopped : ℕ → ℕ → ℕ → End → Indexed
stopped at used taken e = record { state = record { at = at; used = used }; taken = taken; end = e }

abbrev pub shown : {A : Type 0} → ℕ → Done ℕ A → Outcome A
shown taken d = record { answer = stopped d.at d.used taken (end_of d.ends); table = d.table }

-- a walk, laid down in the table; the number taken is that of the entries which it adds
abbrev pub laid : {A : Type 0} → Form A → List A → ℕ → Out ℕ ℕ → Outcome A
laid form T used o = shown (length o.entries) (finish form.width form.cells T used o)

-- a refusal hands back the state that it was given, and the table stays
abbrev pub refused : {A : Type 0} → State → List A → End → Outcome A
refused st T e = record { answer = record { state = st; taken = 0; end = e }; table = T }

-- the walk of a call, over a table that holds so many entries
abbrev pub walk_of : List ℕ → Filter → ℕ → List ℕ → State → ℕ → Out ℕ ℕ
walk_of f filter n s st size = walk (asked f filter) n size st.at st.used s

-- the walk, laid down in the table
unfoldable pub ahead : {A : Type 0} → Form A → List ℕ → Filter → ℕ → List ℕ → State → List A → Outcome A
ahead form f filter n s st T = laid form T st.used (walk_of f filter n s st (form.holds (length T)))

-- BadState: more entries used than the table holds. TooLong. Then the walk
unfoldable pub checked : {A : Type 0} → Form A → List ℕ → Filter → ℕ → List ℕ → State → List A → Outcome A
checked form f filter n s st T =
    pick (ltb (form.holds (length T)) st.used) (refused st T End.BadState)
    (pick (ltb limit (st.at + length s)) (refused st T End.TooLong)
    (ahead form f filter n s st T))

-- BadFilter and RetiredTag come before all
unfoldable pub judged : {A : Type 0} → Form A → List ℕ → ℕ → List ℕ → State → List A → Result Filter FilterError → Outcome A
judged form f n s st T (Ok filter) = checked form f filter n s st T
judged form f n s st T (Err FilterError.Retired) = refused st T End.RetiredTag
judged form f n s st T (Err FilterError.Bad) = refused st T End.BadFilter

-- the call: the filter's bytes, after how many entries it stops, the bytes from the resume position on, the state, the table
unfoldable pub call : {A : Type 0} → Form A → List ℕ → ℕ → List ℕ → State → List A → Outcome A
call form f n s st T = judged form f n s st T (filter_of f)

abbrev pub outcome : List ℕ → ℕ → List ℕ → State → List ℕ → Outcome ℕ
outcome = call flat_form
