-- `numbers::put_outlined` meets its contract: `search` goes through the rule as the code does.
use Rattle.numbers.proofs.Outlined.{outlined}
use Rattle.numbers.proofs.put_outlined.Goals as goal

pub returns-then-out-ge37 : goal.returns-then-out-ge37
returns-then-out-ge37 c = search outlined depth 20

pub returns-else-out-ge37 : goal.returns-else-out-ge37
returns-else-out-ge37 c = search outlined depth 20

pub returns-else-rest-ge42 : goal.returns-else-rest-ge42
returns-else-rest-ge42 c = search outlined depth 20
