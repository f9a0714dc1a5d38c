-- `index::walk_on` meets its contract. The loop keeps what the call will leave (`Kept`): each need about the walk is one of the laws of walk's
use Prim.Native.Nat.{ℕ, ◌+◌, ◌≤◌}
use mathlib.Core.Path.{◌≡◌, refl, sym, ap, ◌∙◌}
use native.Mathlib.Omega.{arith}
use lib.ListN.{length, drop, length-drop}
use Rattle.walk.specs.Walk.{Take}
use Rattle.walk.proofs.Going.{ends_waiting, ends_full, ends_paused}
use Rattle.step.specs.Step.{asked, step_of}
use Rattle.step.proofs.Fair.{fair}
use Rattle.index.specs.Index.{flat_form, stopped}
use Rattle.index.specs.declared.End.{End}
use Rattle.index.proofs.Laws.{starts, turns, no_turn, turned, ends_so, with_answer}
use Rattle.index.proofs.Flat.{flat_sound}
use Rattle.index.proofs.walk_on.Goals as goal
use Rattle.index.proofs.walk_on.Goals.{In-Take}

-- ---- in the arm where an entry is due: its numbers, what the rule said, and that it lies within the bytes left
takes : (c : In-Take) → asked c.args.f.now c.args.filter (drop c.loop-taken.at c.args.s.now) ≡ Take c.in-Take.skipped c.in-Take.len c.in-Take.kind
takes c = sym c.ask_at.ensures ∙ ap step_of c.in-Take.is

lies : (c : In-Take) → (1 ≤ c.in-Take.len) × (c.loop-taken.at + (c.in-Take.skipped + c.in-Take.len) ≤ length c.args.s.now)
lies c =
    let rest = drop c.loop-taken.at c.args.s.now in
    let inside = (fair c.args.f.now c.args.filter).within rest _ _ _ (takes c) in
    ((fair c.args.f.now c.args.filter).moves rest _ _ _ (takes c), omega (arith, length-drop c.loop-taken.at c.args.s.now, c.loop-taken.invariant.going))

pub loop-taken-init : goal.loop-taken-init
loop-taken-init c = starts flat_form _ _ _ _ _ _ _ _ (omega arith)

pub returns-in-Wait : goal.returns-in-Wait
returns-in-Wait c =
    let kept = c.loop-taken.invariant in
    ends_so flat_form _ _ _ _ _ _
    (ends_waiting 4 flat_form.cells (λ e. refl) (asked _ _) (fair _ _) _ _ _ _ _ _ (turns flat_form _ _ _ _ _ _ _ _ kept (omega arith))
    (sym c.ask_at.ensures ∙ ap step_of c.in-Wait.is))
    kept.counted
    ∙ with_answer _ c.waiting.ensures

pub returns-then-size-used : goal.returns-then-size-used
returns-then-size-used c =
    let kept = c.loop-taken.invariant in
    ends_so flat_form _ _ _ _ _ _
    (ends_full 4 flat_form.cells (λ e. refl) (asked _ _) (fair _ _) _ _ _ _ _ _ (turns flat_form _ _ _ _ _ _ _ _ kept (omega arith))
    (takes (goal.at.returns-then-size-used c).In-Take) (omega arith))
    kept.counted
    ∙ with_answer _ c.full.ensures

pub overflow_add-from-in-Take-2 : goal.overflow_add-from-in-Take-2
overflow_add-from-in-Take-2 c = omega (arith, lies (goal.at.overflow_add-from-in-Take-2 c).In-Take)

pub put-requires : goal.put-requires
put-requires c = omega arith

pub overflow_add-used : goal.overflow_add-used
overflow_add-used c = omega arith

pub overflow_add-at : goal.overflow_add-at
overflow_add-at c = omega (arith, lies (goal.at.overflow_add-at c).In-Take)

pub overflow_add-at-in-Take : goal.overflow_add-at-in-Take
overflow_add-at-in-Take c = omega (arith, lies (goal.at.overflow_add-at-in-Take c).In-Take)

pub loop-taken-preserved : goal.loop-taken-preserved
loop-taken-preserved c = turned flat_form _ _ _ _ _ _ _ _ c.loop-taken.invariant flat_sound (omega arith) (takes (goal.at.loop-taken-preserved c).In-Take) (omega arith) (omega arith) _ c.put.ensures

pub returns : goal.returns
returns c =
    let kept = c.loop-taken.invariant in
    let all : c.loop-taken.taken ≡ c.args.n = omega arith in
    ends_so flat_form _ _ _ _ _ _
    (ends_paused 4 flat_form.cells (λ e. refl) (asked _ _) (fair _ _) _ _ _ _ _ _ (no_turn flat_form _ _ _ _ _ _ _ _ kept (omega arith)))
    kept.counted
    ∙ ap (λ (k : ℕ). record { answer = stopped (c.args.state.at + c.loop-taken.at) c.loop-taken.used k End.Paused; table = c.loop-taken.table }) all
    ∙ with_answer _ c.paused.ensures
