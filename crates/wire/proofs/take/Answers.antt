-- `wire::take` meets its contract: an answer for each outcome of the test.
use Rattle.wire.proofs.Runs.{take_done, take_need}
use Rattle.wire.proofs.take.Goals as goal

pub returns-then-rest-n : goal.returns-then-rest-n
returns-then-rest-n c = take_need _ _ _ _ c.left-rest.ensures c.if-rest-n.true

pub returns : goal.returns
returns c = take_done _ _ _ _ c.left-rest.ensures c.if-rest-n.false
