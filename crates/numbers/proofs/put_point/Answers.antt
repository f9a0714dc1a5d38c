-- `numbers::put_point` meets its contract: `search` goes through the rule as the code does.
use Rattle.numbers.proofs.Groups.{groups}
use Rattle.numbers.proofs.put_point.Goals as goal

pub returns-in-Some : goal.returns-in-Some
returns-in-Some c = search groups depth 20

pub returns-in-None : goal.returns-in-None
returns-in-None c = search groups depth 20
