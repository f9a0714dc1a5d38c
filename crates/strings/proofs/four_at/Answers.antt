-- `strings::four_at` meets its contract: `search` goes through the rule as the code does.
use Rattle.strings.proofs.Utf8.{utf8}
use Rattle.strings.proofs.four_at.Goals as goal

pub returns-then-lead-le240 : goal.returns-then-lead-le240
returns-then-lead-le240 c = search utf8 depth 20

pub returns-then-lead-le243 : goal.returns-then-lead-le243
returns-then-lead-le243 c = search utf8 depth 20

pub returns-then-lead-le244 : goal.returns-then-lead-le244
returns-then-lead-le244 c = search utf8 depth 20

pub returns : goal.returns
returns c = search utf8 depth 20
