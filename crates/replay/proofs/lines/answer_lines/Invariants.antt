-- In `answer_lines` no line begins behind the byte that is looked at.
use Rattle.std.proofs.Common.{◌≤◌}
use Rattle.replay.proofs.lines.answer_lines.Given as goal

abbrev pub invariant-loop-end : goal.invariant-loop-end
invariant-loop-end l = l.start ≤ l.end
