-- `numbers::put_filtered` meets its contract: `search` goes through the rule as the code does.
use Rattle.numbers.proofs.Rows.{rows}
use Rattle.numbers.proofs.put_filtered.Goals as goal

pub returns-then-room-ge37 : goal.returns-then-room-ge37
returns-then-room-ge37 c = search rows depth 20

pub returns-else-room-ge37 : goal.returns-else-room-ge37
returns-else-room-ge37 c = search rows depth 20
