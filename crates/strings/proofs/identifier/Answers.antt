-- `strings::identifier` meets its contract: the two answers of a string of size 4.
use borrow.Author.Rules.{rules}
use native.Mathlib.Omega.{arith}
use mathlib.Core.Path.{refl, ◌∙◌}
use Rattle.strings.proofs.Spelled.{id_waits, id_done, length_is}
use Rattle.strings.proofs.Reasons.{ended_size, no_longer}
use Rattle.strings.proofs.identifier.Goals as goal

pub returns-then-rest-lt4 : goal.returns-then-rest-lt4
returns-then-rest-lt4 c = id_waits _ _ _ refl _ c.id_need.ensures (omega arith)

pub returns-then-len-eq4 : goal.returns-then-len-eq4
returns-then-len-eq4 c =
    let four = length_is _ _ _ c.id_length-len.ensures (omega arith) in
    c.read_identifier.ensures ∙ id_done _ _ _ refl 4 _ (omega arith) (ended_size 4 _ _ _ four (omega arith)) (omega arith)

pub why_ended-ended-requires : goal.why_ended-ended-requires
why_ended-ended-requires c =
    let few = length_is _ _ _ c.id_length-len.ensures (omega arith) in
    search (rules, few, no_longer)

pub returns : goal.returns
returns c =
    let few = length_is _ _ _ c.id_length-len.ensures (omega arith) in
    c.read_identifier-2.ensures ∙ id_done _ _ _ refl _ _ few c.why_ended-ended.ensures (omega arith)
