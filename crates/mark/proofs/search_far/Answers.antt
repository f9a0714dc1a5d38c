-- `mark::search_far` meets its contract: by what the blocks tell, one after the other.
use mathlib.Core.Path.{sym, ◌∙◌}
use Rattle.mark.proofs.search_far.Goals as goal

pub returns-then-few-end : goal.returns-then-few-end
returns-then-few-end c = c.plain_search.ensures ∙ sym c.skip_blocks-few.ensures

pub returns : goal.returns
returns c = c.plain_search-2.ensures ∙ sym c.skip_blocks-near.ensures ∙ sym c.skip_blocks-far.ensures ∙ sym c.skip_blocks-few.ensures
