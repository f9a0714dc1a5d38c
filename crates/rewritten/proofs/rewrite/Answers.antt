-- What is written is of all that the reader had, or it could not be read.
use Rattle.std.proofs.Common.{rules, refl, inr}
use Rattle.std.proofs.KnownBytes.{Appends-nil}
use Rattle.rewritten.specs.Written.{written, nothing_read}
use Rattle.rewritten.proofs.Whole.{on_ok, all_of}
use Rattle.rewritten.proofs.rewrite.Goals as goal

pub returns-in-Ok : goal.returns-in-Ok
returns-in-Ok g c =
    let read = c.in-Ok.ensures in
    on_ok c.show_first.result (λ grown. (written _, all_of _ c.gather.new.buf c.in-Ok.n (search rules) read.0 read.1, grown)) (c.show_first.ensures read.0)

pub returns-in-Err : goal.returns-in-Err
returns-in-Err g c = on_ok c.unreadable.result (λ grown. (nothing_read, inr refl, (Appends-nil _, grown))) c.unreadable.ensures
