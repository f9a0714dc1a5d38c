-- `strings::id_need` meets its contract: each way through it is a law of `needed`.
use Rattle.strings.proofs.Spelled.{needed}
use Rattle.strings.proofs.id_need.Goals as goal

pub returns-then-s-at-eq0 : goal.returns-then-s-at-eq0
returns-then-s-at-eq0 c = search needed depth 20

pub returns-else-s-at-eq0 : goal.returns-else-s-at-eq0
returns-else-s-at-eq0 c = search needed depth 20

pub returns-then-s-at-eq0-2 : goal.returns-then-s-at-eq0-2
returns-then-s-at-eq0-2 c = search needed depth 20

pub returns-then-s-at-eq0-3 : goal.returns-then-s-at-eq0-3
returns-then-s-at-eq0-3 c = search needed depth 20

pub returns-else-s-at-eq0-3 : goal.returns-else-s-at-eq0-3
returns-else-s-at-eq0-3 c = search needed depth 20

pub returns-in_default : goal.returns-in_default
returns-in_default c = search needed depth 20
