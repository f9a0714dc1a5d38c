-- `outline::glance` meets its contract: `search` goes through the rule as the code does.
use Rattle.outline.proofs.Reading.{glancing}
use Rattle.outline.proofs.glance.Goals as goal

pub returns-then-rest-lt42 : goal.returns-then-rest-lt42
returns-then-rest-lt42 c = search glancing depth 20

pub returns-else-rest-lt42 : goal.returns-else-rest-lt42
returns-else-rest-lt42 c = search glancing depth 20

pub returns-then-s-lt16 : goal.returns-then-s-lt16
returns-then-s-lt16 c = search glancing depth 20

pub returns-else-s-lt16 : goal.returns-else-s-lt16
returns-else-s-lt16 c = search glancing depth 20
