-- `entries::due` meets its contract: each of its ends is a case of `turn_of`, and an entry that the rule says lies within the bytes.
use Prim.Native.Nat.{◌+◌, ◌≤◌}
use mathlib.Core.Path.{◌≡◌, sym, ap, ◌∙◌}
use native.Mathlib.Omega.{arith}
use lib.ListN.{length, drop, length-drop}
use Rattle.walk.specs.Walk.{Take}
use Rattle.step.specs.Step.{asked, step_of}
use Rattle.step.proofs.Fair.{fair}
use Rattle.index.proofs.Laws.{tail_part}
use Rattle.entries.proofs.Turns.{turn_paused, turn_waits, turn_full, turn_writes}
use Rattle.entries.proofs.due.Goals as goal
use Rattle.entries.proofs.due.Goals.{In-Take}

-- ---- in the arm where an entry is due: what the rule said, and that it lies within the bytes left
takes : (c : In-Take) → asked c.args.f.now c.args.filter (drop c.args.at c.args.s.now) ≡ Take c.in-Take.skipped c.in-Take.len c.in-Take.kind
takes c = ap (asked c.args.f.now c.args.filter) (sym (tail_part c.args.s.now c.args.at)) ∙ sym c.ask.ensures ∙ ap step_of c.in-Take.is

lies : (c : In-Take) → c.args.at + (c.in-Take.skipped + c.in-Take.len) ≤ length c.args.s.now
lies c =
    let inside = (fair c.args.f.now c.args.filter).within (drop c.args.at c.args.s.now) _ _ _ (takes c) in
    omega (arith, length-drop c.args.at c.args.s.now)

pub returns-then-most-taken : goal.returns-then-most-taken
returns-then-most-taken c = c.stop.ensures ∙ turn_paused _ _ _ _ _ _ _ _ (omega arith)

pub returns-then-cap-used : goal.returns-then-cap-used
returns-then-cap-used c = c.stop-then-cap-used.ensures ∙ turn_full _ _ _ _ _ _ _ (omega arith) (takes (goal.at.returns-then-cap-used c).In-Take) (omega arith)

pub write-requires : goal.write-requires
write-requires c = omega (arith, lies (goal.at.write-requires c).In-Take)

pub returns-in-Wait : goal.returns-in-Wait
returns-in-Wait c =
    let a = c.args in
    c.stop-in-Wait.ensures
    ∙ turn_waits _ _ _ _ _ _ _ (omega arith)
    (ap (asked a.f.now a.filter) (sym (tail_part a.s.now a.at)) ∙ sym c.ask.ensures ∙ ap step_of c.in-Wait.is)

pub returns-else-cap-used : goal.returns-else-cap-used
returns-else-cap-used c = c.write.ensures ∙ turn_writes _ _ _ _ _ _ _ (omega arith) (takes (goal.at.returns-else-cap-used c).In-Take) (omega arith)
