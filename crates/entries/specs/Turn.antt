-- A turn of the call by values: what is due. The functions of the crate say these; that the loop which does them is the call is proved.
use Rattle.std.specs.Prelude.{ℕ, ◌+◌, ◌≤◌, ◌<◌, true, false, List, length, drop, ltb, leb, Result, Ok, Err, None}
use Rattle.wire.specs.Parser.{pick}
use Rattle.filter.specs.Filter.{filter_of}
use Rattle.filter.specs.declared.Filter.{Filter}
use Rattle.filter.specs.declared.FilterError.{FilterError}
use Rattle.walk.specs.Walk.{Step, Wait, Take, entry}
use Rattle.step.specs.Step.{asked}
use Rattle.index.specs.Index.{limit, stopped}
use Rattle.index.specs.declared.State.{State}
use Rattle.index.specs.declared.End.{End}
use Rattle.entries.specs.declared.Turn.{Turn}
use Rattle.entries.specs.Form.{entry_of}

-- what stands in a turn that ends, where it is of no account
abbrev pub no_filter_of : Filter
no_filter_of = record {
  min_log_level = None;
  app_ids = None;
  ecu_ids = None;
  context_ids = None;
}

-- the call ends, with this answer
abbrev pub stop_of : State → ℕ → End → Turn
stop_of st taken e = record {
  go = false;
  place = 0;
  entry = record { start = 0; skipped = 0; length = 0; kind = 0 };
  answer = record { state = st; taken = taken; end = e };
  at = 0;
  from = 0;
  cap = 0;
  filter = no_filter_of;
  most = 0;
}

-- an entry is due
abbrev pub write_of : Filter → ℕ → ℕ → ℕ → ℕ → ℕ → ℕ → ℕ → ℕ → ℕ → Turn
write_of filter from cap used at most taken k l i = record {
  go = true;
  place = used;
  entry = entry_of (entry (from + at) k l i);
  answer = stopped (from + at) used taken End.Full;
  at = at + (k + l);
  from = from;
  cap = cap;
  filter = filter;
  most = most;
}

-- by what the rule says of the bytes from `at` on
unfoldable pub said_of : Filter → ℕ → ℕ → ℕ → ℕ → ℕ → ℕ → Step ℕ ℕ → Turn
said_of filter from cap used at most taken (Wait need) = stop_of (record { at = from + at; used = used }) taken (End.Waits need)
said_of filter from cap used at most taken (Take k l i) =
    pick (leb cap used) (stop_of (record { at = from + at; used = used }) taken End.Full) (write_of filter from cap used at most taken k l i)

-- and before that, by the entries taken
unfoldable pub turn_of : Filter → ℕ → ℕ → ℕ → ℕ → ℕ → ℕ → Step ℕ ℕ → Turn
turn_of filter from cap used at most taken x =
    pick (leb most taken) (stop_of (record { at = from + at; used = used }) taken End.Paused) (said_of filter from cap used at most taken x)

-- the refusals in their order, and then what is due at the beginning
unfoldable pub judged_turn : List ℕ → List ℕ → State → ℕ → ℕ → Result Filter FilterError → Turn
judged_turn f s st cap n (Ok filter) =
    pick (ltb cap st.used) (stop_of st 0 End.BadState)
    (pick (ltb limit (st.at + length s)) (stop_of st 0 End.TooLong)
    (turn_of filter st.at cap st.used 0 n 0 (asked f filter s)))
judged_turn f s st cap n (Err FilterError.Retired) = stop_of st 0 End.RetiredTag
judged_turn f s st cap n (Err FilterError.Bad) = stop_of st 0 End.BadFilter

unfoldable pub first_of_lem : List ℕ → List ℕ → State → ℕ → ℕ → Turn
first_of_lem f s st cap n = judged_turn f s st cap n (filter_of f)

unfoldable pub next_of_lem : List ℕ → List ℕ → Turn → Turn
next_of_lem f s t = turn_of t.filter t.from t.cap (t.place + 1) t.at t.most (t.answer.taken + 1) (asked f t.filter (drop t.at s))

-- what a turn is of which the next is asked
abbrev pub Apt : List ℕ → Turn → Type 0
Apt s t = (t.at ≤ length s) × ((t.from + length s ≤ limit) × ((t.place < t.cap) × (t.answer.taken < t.most)))
