-- What is printed tells of all that the reader had, or it could not be read.
use Rattle.std.proofs.Common.{rules, arith, refl, inl, inr, length-take-le}
use Rattle.std.proofs.KnownBytes.{Appends-nil}
use Rattle.listed.specs.Listing.{listed, over_limit, nothing_read}
use Rattle.listed.proofs.Whole.{on_ok, too_many}
use Rattle.listed.proofs.read_and_show.Goals as goal

pub returns-in-Ok-Some : goal.returns-in-Ok-Some
returns-in-Ok-Some g c =
    let read = rw c.in-Ok-Some.field-0-is at c.in-Ok-Some.ensures in
    let few = length-take-le c.in-Ok-Some.n c.gather.new.buf read.0 in
    on_ok c.show_first.result (λ grown. (listed _, inl (_, read.1, inl (omega arith, refl)), grown, Appends-nil _)) (c.show_first.ensures read.0)

pub returns-in-Ok-None : goal.returns-in-Ok-None
returns-in-Ok-None g c = on_ok c.write_all.result (λ grown. (over_limit, too_many _ c.gather.new.buf (search rules) (rw c.in-Ok-None.field-0-is at c.in-Ok-None.ensures), grown, Appends-nil _)) c.write_all.ensures.bytes

pub returns-in-Err : goal.returns-in-Err
returns-in-Err g c = on_ok c.unreadable.result (λ grown. (nothing_read, inr refl, Appends-nil _, grown)) c.unreadable.ensures
