-- `numbers::put_standard` meets its contract: `search` goes through the rule as the code does.
use Rattle.numbers.proofs.Rows.{rows}
use Rattle.numbers.proofs.put_standard.Goals as goal

pub returns : goal.returns
returns c = search rows depth 20
