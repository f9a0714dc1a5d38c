use Rattle.entries.specs.Turn.{next_of_lem}
use Rattle.entries.proofs.next.Goals as goal

pub returns : goal.returns
unfolding next_of_lem
returns c = c.due.ensures
