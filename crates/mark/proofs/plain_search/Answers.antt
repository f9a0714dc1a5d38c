-- `mark::plain_search` meets its contract. The outer loop's invariant: the first place from `at` on is the first from `i` on.
use native.Mathlib.Omega.{arith}
use native.Mathlib.Numerals.{add-one}
use mathlib.Core.Path.{refl, sym, ◌∙◌}
use borrow.Author.Count.{below_more}
use Rattle.mark.specs.First.{pattern}
use Rattle.mark.proofs.Laws.{stands_at, differs_at, hit, miss, short}
use Rattle.mark.proofs.plain_search.Goals as goal

pub returns-then-rest-lt4 : goal.returns-then-rest-lt4
returns-then-rest-lt4 c = sym (short pattern _ _ (omega arith))

pub overflow_sub-last : goal.overflow_sub-last
overflow_sub-last c = omega arith

pub places-init : goal.places-init
places-init c = (omega arith, refl)

pub overflow_add-i : goal.overflow_add-i
overflow_add-i c = omega arith

pub bounds-s-i : goal.bounds-s-i
bounds-s-i c = omega arith

pub overflow_add-j : goal.overflow_add-j
overflow_add-j c = omega arith

pub loop-j-smaller : goal.loop-j-smaller
loop-j-smaller c = omega arith

pub loop-j-preserved : goal.loop-j-preserved
loop-j-preserved c = (omega arith, below_more _ _ c.loop-j.invariant.1 c.loop-j-test.true)

pub overflow_add-i-in-places : goal.overflow_add-i-in-places
overflow_add-i-in-places c = omega arith

pub places-smaller : goal.places-smaller
places-smaller c = omega arith

pub places-preserved : goal.places-preserved
places-preserved c =
    let s = c.args.s.now in
    let i = c.places.i in
    (omega arith, rw add-one (c.places.invariant.1 ∙ miss pattern s i (omega arith) (omega arith) (differs_at pattern s i c.loop-j.j (omega arith) c.loop-j-test.false)))

pub returns-then-last-i : goal.returns-then-last-i
returns-then-last-i c = sym (c.places.invariant.1 ∙ short pattern _ _ (omega arith))

pub returns-then-j-eq4 : goal.returns-then-j-eq4
returns-then-j-eq4 c =
    let s = c.args.s.now in
    let i = c.places.i in
    sym
    (c.places.invariant.1
    ∙ hit pattern s i (omega arith) (omega arith)
    (stands_at pattern s i (λ k q. below_more _ _ c.loop-j.invariant.1 c.loop-j-test.true k (omega arith))))
