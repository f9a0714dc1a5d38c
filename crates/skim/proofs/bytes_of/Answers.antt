-- `skim::bytes_of` meets its contract: a row for each key.
use Rattle.std.proofs.Common.{rules}
use Rattle.skim.specs.Skim.{bytes_of}
use Rattle.skim.proofs.bytes_of.Goals as goal

pub returns-in-1 : goal.returns-in-1
unfolding bytes_of
returns-in-1 c = rw c.in-1.is

pub returns-in-2 : goal.returns-in-2
unfolding bytes_of
returns-in-2 c = rw c.in-2.is

pub returns-in-3 : goal.returns-in-3
unfolding bytes_of
returns-in-3 c = rw c.in-3.is

pub returns-in-4 : goal.returns-in-4
unfolding bytes_of
returns-in-4 c = rw c.in-4.is

pub returns-in-5 : goal.returns-in-5
unfolding bytes_of
returns-in-5 c = rw c.in-5.is

pub returns-in_default : goal.returns-in_default
unfolding bytes_of
returns-in_default c = search rules
