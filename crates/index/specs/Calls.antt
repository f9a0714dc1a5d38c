-- Calls one after another: what demand 3 says, and what it says of calls that stop after so many entries.
use Rattle.std.specs.Prelude.{ℕ, zero, suc, ◌+◌, ◌-◌, ◌*◌, ◌<◌, ◌≡◌, List, [], ◌∷◌, ◌++◌, length, get_or, take, drop}
use Rattle.index.specs.Index.{Form, Outcome, call}
use Rattle.index.specs.declared.State.{State}
use Rattle.index.specs.declared.End.{End}

abbrev pub fresh : State
fresh = record { at = 0; used = 0 }

-- without a limit: the largest number that a call can be given. No call takes so many bytes, and an entry takes at least one
abbrev pub unlimited : ℕ
unlimited = 18446744073709551615

abbrev pub whole : {A : Type 0} → Form A → List ℕ → List ℕ → State → List A → Outcome A
whole form f s st T = call form f unlimited s st T

-- The number taken is each call's own: of calls in a row it is added up. All else is the last call's
abbrev pub adding : {A : Type 0} → ℕ → Outcome A → Outcome A
adding k o = record { answer = record { state = o.answer.state; taken = k + o.answer.taken; end = o.answer.end }; table = o.table }

-- the next call: the state and the table that the last one left, and the bytes s, of which the first stands at st's resume position, from the new one on
abbrev pub next : {A : Type 0} → Form A → List ℕ → ℕ → List ℕ → State → Outcome A → Outcome A
next form f n s st a = adding a.answer.taken (call form f n (drop (a.answer.state.at - st.at) s) a.answer.state a.table)

-- a call over a trace: it is given the bytes from the state's resume position on
abbrev pub over_trace : {A : Type 0} → Form A → List ℕ → ℕ → List ℕ → State → List A → Outcome A
over_trace form f n trace st T = call form f n (drop st.at trace) st T

-- A call over s, and then, for each of the parts, a call with that part added at the end of what is left. Each call but the last may have a limit, which
-- stands with the part that comes after it
unfoldable pub calls : {A : Type 0} → Form A → List ℕ → List ℕ → State → List A → List (ℕ × List ℕ) → Outcome A
calls form f s st T [] = whole form f s st T
calls form f s st T (p ∷ ps) =
    let a = call form f p.0 s st T in
    adding a.answer.taken (calls form f (drop (a.answer.state.at - st.at) s ++ p.1) a.answer.state a.table ps)

-- all the parts
abbrev pub joined : List (ℕ × List ℕ) → List ℕ
joined [] = []
joined (p ∷ ps) = p.1 ++ joined ps

-- what comes after an answer that is Paused; any other is the end
abbrev pub unless_paused : {X : Type 0} → End → X → X → X
unless_paused End.Paused a more = more
unless_paused End.BadFilter a more = a
unless_paused End.RetiredTag a more = a
unless_paused End.BadState a more = a
unless_paused End.TooLong a more = a
unless_paused End.Full a more = a
unless_paused (End.Waits need) a more = a

-- THE HOST'S LOOP: calls that stop after so many entries each, over the same bytes, until an answer isn't Paused. Where the limits end first the loop is
-- cancelled: what it leaves is what a call that stops at once leaves
unfoldable pub repeated : {A : Type 0} → Form A → List ℕ → List ℕ → State → List A → List ℕ → Outcome A
repeated form f s st T [] = call form f 0 s st T
repeated form f s st T (n ∷ ns) =
    let a = call form f n s st T in
    unless_paused a.answer.end a
    (adding a.answer.taken (repeated form f (drop (a.answer.state.at - st.at) s) a.answer.state a.table ns))

-- each limit is above 0
abbrev pub Above : List ℕ → Type 0
Above [] = Unit {0}
Above (n ∷ ns) = (0 < n) × Above ns

abbrev pub total : List ℕ → ℕ
total [] = 0
total (n ∷ ns) = n + total ns

-- A call that waited, and the same call with more bytes, over a table that holds so many entries. The wait is over: an entry more is written, or none was
-- free, and it is Full where it waited
pub data WaitOver {A : Type 0} (size : ℕ) (a b : Outcome A) : Type 0 where
  one_more : a.answer.state.used < b.answer.state.used → WaitOver size a b
  none_free : a.answer.state.used ≡ size → b ≡ record { answer = record { state = a.answer.state; taken = a.answer.taken; end = End.Full }; table = a.table } → WaitOver size a b

-- two tables of one length with the same first n entries, whatever stands behind them
pub record SameEntries {A : Type 0} (form : Form A) (n : ℕ) (T U : List A) : Type 0 where
  pub as_long : length U ≡ length T
  pub entries : take (form.width * n) U ≡ take (form.width * n) T

-- two calls with the same answer, whose tables have the same entries
abbrev pub Alike : {A : Type 0} → Form A → Outcome A → Outcome A → Type 0
Alike form a b = (b.answer ≡ a.answer) × SameEntries form a.answer.state.used a.table b.table

-- bytes skipped and lengths over the first n entries of a flat table
unfoldable pub totals : ℕ → List ℕ → ℕ
totals zero T = 0
totals (suc n) T = get_or T 1 0 + get_or T 2 0 + totals n (drop 4 T)
