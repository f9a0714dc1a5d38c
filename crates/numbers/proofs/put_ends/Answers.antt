-- `numbers::put_ends` meets its contract: `search` goes through the rule as the code does.
use Rattle.numbers.proofs.Rows.{rows}
use Rattle.numbers.proofs.put_ends.Goals as goal

pub returns : goal.returns
returns c = search rows depth 20
