-- The answers that the results of code stand for: a value with the position behind it, or why there is none.
use Rattle.std.specs.Prelude.{ℕ, Result, Ok, Err}
use Rattle.wire.specs.Answer.{Ans}
use Rattle.wire.specs.Answer.Ans.{done, need, hickup, broken}
use Rattle.wire.specs.declared.Got.{Got}
use Rattle.wire.specs.declared.Need.{Need}
use Rattle.wire.specs.declared.Stop.{Stop}
use Rattle.wire.specs.declared.Halt.{Halt}
use Rattle.wire.specs.declared.Reason.{Reason}

-- document 01, "Hickup reasons"
abbrev pub reason_number : Reason → ℕ
reason_number Reason.Length = 1
reason_number Reason.TypeInfo = 2
reason_number Reason.Pattern = 4
reason_number Reason.SignalShort = 5
reason_number Reason.SignalText = 6
reason_number Reason.SignalFixedPoint = 7

abbrev pub halt_of : Stop → Halt
halt_of (Stop.Need n) = Halt.Need n
halt_of (Stop.Hickup r) = Halt.Hickup r

-- of a rule that refuses nothing
abbrev pub need_ans : {A : Type 0} → Result (Got A) Need → Ans A
need_ans (Ok g) = done g.v g.next
need_ans (Err n) = need n.0

-- of one that refuses some bytes
abbrev pub stop_ans : {A : Type 0} → Result (Got A) Stop → Ans A
stop_ans (Ok g) = done g.v g.next
stop_ans (Err (Stop.Need n)) = need n
stop_ans (Err (Stop.Hickup r)) = hickup (reason_number r)

-- of one that gives up too
abbrev pub halt_ans : {A : Type 0} → Result (Got A) Halt → Ans A
halt_ans (Ok g) = done g.v g.next
halt_ans (Err (Halt.Need n)) = need n
halt_ans (Err (Halt.Hickup r)) = hickup (reason_number r)
halt_ans (Err Halt.Broken) = broken

-- of a rule that is passed: where it ends, and nothing of it is kept
abbrev pub passed_ans : Result ℕ Stop → Ans Unit
passed_ans (Ok next) = done tt next
passed_ans (Err (Stop.Need n)) = need n
passed_ans (Err (Stop.Hickup r)) = hickup (reason_number r)

-- of one that refuses bytes and never waits
abbrev pub reason_ans : {A : Type 0} → Result (Got A) Reason → Ans A
reason_ans (Ok g) = done g.v g.next
reason_ans (Err r) = hickup (reason_number r)
