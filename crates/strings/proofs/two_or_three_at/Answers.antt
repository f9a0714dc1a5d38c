-- `strings::two_or_three_at` meets its contract: `search` goes through the rule as the code does.
use Rattle.strings.proofs.Utf8.{utf8}
use Rattle.strings.proofs.two_or_three_at.Goals as goal

pub returns-then-lead-le193 : goal.returns-then-lead-le193
returns-then-lead-le193 c = search utf8 depth 20

pub returns-then-lead-le223 : goal.returns-then-lead-le223
returns-then-lead-le223 c = search utf8 depth 20

pub returns-then-lead-le224 : goal.returns-then-lead-le224
returns-then-lead-le224 c = search utf8 depth 20

pub returns-then-lead-le236 : goal.returns-then-lead-le236
returns-then-lead-le236 c = search utf8 depth 20

pub returns-then-lead-le237 : goal.returns-then-lead-le237
returns-then-lead-le237 c = search utf8 depth 20

pub returns : goal.returns
returns c = search utf8 depth 20
