-- `mark::is_free` meets its contract: by what either test tells.
use Rattle.mark.proofs.is_free.Goals as goal

pub returns-then-ends_nowhere : goal.returns-then-ends_nowhere
returns-then-ends_nowhere c = λ e. c.ends_nowhere.ensures c.if-ends_nowhere.true
