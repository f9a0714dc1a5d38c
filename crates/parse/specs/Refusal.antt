-- The answer that a call's result stands for, whatever the rule behind its filter: document 01, "Answer numbers".
use Rattle.std.specs.Prelude.{Result, Ok, Err}
use Rattle.wire.specs.Answer.Ans.{done, need, hickup, broken}
use Rattle.wire.specs.Answers.{reason_number}
use Rattle.wire.specs.declared.Got.{Got}
use Rattle.wire.specs.declared.Halt.{Halt}
use Rattle.filter.specs.declared.FilterError.{FilterError}
use Rattle.parse.specs.Message.{Answer}
use Rattle.parse.specs.declared.Refusal.{Refusal}

abbrev pub refusal_of_filter : FilterError → Refusal
refusal_of_filter FilterError.Bad = Refusal.BadFilter
refusal_of_filter FilterError.Retired = Refusal.RetiredTag

abbrev pub refusal_of_halt : Halt → Refusal
refusal_of_halt (Halt.Need n) = Refusal.Need n
refusal_of_halt (Halt.Hickup r) = Refusal.Hickup r
refusal_of_halt Halt.Broken = Refusal.Broken

abbrev pub refusal_ans : {A : Type 0} → Result (Got A) Refusal → Answer A
refusal_ans (Ok g) = Answer.answered (done g.v g.next)
refusal_ans (Err Refusal.BadFilter) = Answer.bad_filter
refusal_ans (Err Refusal.RetiredTag) = Answer.retired_tag
refusal_ans (Err (Refusal.Need n)) = Answer.answered (need n)
refusal_ans (Err (Refusal.Hickup r)) = Answer.answered (hickup (reason_number r))
refusal_ans (Err Refusal.Broken) = Answer.answered broken
