-- What a read put behind the bytes that are there follows them in the buffer, as it followed them in the reader.
use Rattle.std.proofs.Common.{◌≡◌, ℕ, ◌+◌, ◌-◌, ◌≤◌, List, ◌++◌, rules, length, take, sym, ap, ◌∙◌, subst, le_refl, drop_at, length-take-le}
use Rattle.std.proofs.lemmas.Slice.{take-put_mid_below}
use Rattle.std.specs.Io.KnownBytes.{Consumes}
use Rattle.std.proofs.KnownBytes.{Consumes-trans}
use borrow.Rule.Slice.PartMut.{put_mid, post_of}
use lib.Seq.{take-add, take-append-le}
use Rattle.listed.proofs.gather.Goals as goal

filled : (a k n : ℕ) (xs ys : List ℕ) → a ≤ length xs → n ≤ length ys → take a xs ++ take n ys ≡ take (a + n) (put_mid a k xs ys)
filled a k n xs ys within fits =
    let all = put_mid a k xs ys in
    let post = post_of a k xs in
    let front = sym (take-put_mid_below _ _ _ _ _ (le_refl _) within) in
    let part = sym (ap (take n) (drop_at (take a xs) (ys ++ post) a (length-take-le a xs within)) ∙ take-append-le n ys post fits) in
    ap (λ l. l ++ take n ys) front ∙ ap (λ l. take a all ++ l) part ∙ sym (take-add a n all)

pub loop-done-preserved : goal.loop-done-preserved
loop-done-preserved g c =
    let before = c.loop-done.invariant in
    let here = filled c.loop-done.done (length c.loop-done.buf - c.loop-done.done) c.in-Ok.n c.loop-done.buf c.read.new.buf before.1 c.in-Ok.ensures.bound.0 in
    (search rules, search rules, subst (Consumes _ _) here (Consumes-trans _ _ _ _ _ before.2 c.in-Ok.ensures.bytes.0))
