-- `dlt::kind_of` meets its contract: a row for each key.
use Rattle.dlt.specs.TypeInfoWord.{kind_by}
use borrow.Author.Rules.{rules}
use Rattle.dlt.proofs.kind_of.Goals as goal

pub returns-in-1 : goal.returns-in-1
unfolding kind_by
returns-in-1 c = rw c.in-1.is

pub returns-in-2 : goal.returns-in-2
unfolding kind_by
returns-in-2 c = rw c.in-2.is c.signed_kind.ensures

pub returns-in-4 : goal.returns-in-4
unfolding kind_by
returns-in-4 c = rw c.in-4.is c.unsigned_kind.ensures

pub returns-in-8 : goal.returns-in-8
unfolding kind_by
returns-in-8 c = rw c.in-8.is c.float_kind.ensures

pub returns-in-32 : goal.returns-in-32
unfolding kind_by
returns-in-32 c = rw c.in-32.is

pub returns-in-64 : goal.returns-in-64
unfolding kind_by
returns-in-64 c = rw c.in-64.is

pub returns-in_default : goal.returns-in_default
unfolding kind_by
returns-in_default c = search rules
