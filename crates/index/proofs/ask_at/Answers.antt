use mathlib.Core.Path.{ap, ◌∙◌}
use Rattle.step.specs.Step.{asked}
use Rattle.index.proofs.Laws.{tail_part}
use Rattle.index.proofs.ask_at.Goals as goal

pub returns : goal.returns
returns c =
    let a = c.args in
    c.ask.ensures ∙ ap (asked a.f.now a.filter) (tail_part a.s.now a.at)
