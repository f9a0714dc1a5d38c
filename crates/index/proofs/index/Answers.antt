use mathlib.Core.Path.{ap, ◌∙◌}
use Rattle.std.specs.Prelude.{Err}
use Rattle.index.specs.Index.{flat_form}
use Rattle.index.proofs.Laws.{bad_filter_lem, retired_tag_lem, good_filter, with_answer}
use Rattle.index.proofs.index.Goals as goal

pub returns-in-Ok : goal.returns-in-Ok
returns-in-Ok c =
    good_filter flat_form _ _ _ _ _ _ _ c.read_filter.ensures c.in-Ok.is
    ∙ c.index_with.ensures

pub returns-in-Err-Retired : goal.returns-in-Err-Retired
returns-in-Err-Retired c =
    retired_tag_lem flat_form _ _ _ _ _ _ c.read_filter.ensures (c.in-Err-Retired.is ∙ ap Err c.in-Err-Retired.field-0-is)
    ∙ with_answer _ c.refuse.ensures

pub returns-in-Err-Bad : goal.returns-in-Err-Bad
returns-in-Err-Bad c =
    bad_filter_lem flat_form _ _ _ _ _ _ c.read_filter.ensures (c.in-Err-Bad.is ∙ ap Err c.in-Err-Bad.field-0-is)
    ∙ with_answer _ c.refuse-in-Err-Bad.ensures
