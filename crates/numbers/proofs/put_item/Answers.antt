-- `numbers::put_item` meets its contract: `search` goes through the rule as the code does.
use Rattle.numbers.proofs.Rows.{rows}
use Rattle.numbers.proofs.put_item.Goals as goal

pub returns-then-out-ge37 : goal.returns-then-out-ge37
returns-then-out-ge37 c = search rows depth 20

pub returns-else-out-ge37 : goal.returns-else-out-ge37
returns-else-out-ge37 c = search rows depth 20
