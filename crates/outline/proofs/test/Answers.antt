-- `outline::test` meets its contract: `search` goes through the rule as the code does.
use Rattle.outline.proofs.Reading.{glancing}
use Rattle.outline.proofs.test.Goals as goal

pub returns-then-declared-all : goal.returns-then-declared-all
returns-then-declared-all c = search glancing depth 20

pub returns-then-rest-declared : goal.returns-then-rest-declared
returns-then-rest-declared c = search glancing depth 20

pub returns : goal.returns
returns c = search glancing depth 20
