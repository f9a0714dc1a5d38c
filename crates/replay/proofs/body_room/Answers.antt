-- A repeat is as long as it says. The law and not a computation shows it, since the list is long.
use Rattle.replay.proofs.Long.{long}
use Rattle.replay.proofs.body_room.Goals as goal

pub returns : goal.returns
returns c = long 150000 0
