-- `numbers::id_at` meets its contract: `search` goes through the rule as the code does.
use native.Mathlib.Omega.{arith}
use Rattle.numbers.proofs.Outlined.{four_letters_lem, three_letters, outlined}
use Rattle.numbers.proofs.id_at.Goals as goal

pub returns-then-letter_at-4 : goal.returns-then-letter_at-4
returns-then-letter_at-4 c = four_letters_lem _ _ _ _ _ c.letter_at.ensures c.if-letter_at.true c.letter_at-then-letter_at.ensures c.if-letter_at-2.true c.letter_at-then-letter_at-2.ensures c.if-letter_at-3.true _ c.letter_at-then-letter_at-3.ensures c.if-letter_at-4.true

pub returns-then-s-at-eq0 : goal.returns-then-s-at-eq0
returns-then-s-at-eq0 c = three_letters _ _ _ _ _ c.letter_at.ensures c.if-letter_at.true c.letter_at-then-letter_at.ensures c.if-letter_at-2.true c.letter_at-then-letter_at-2.ensures c.if-letter_at-3.true (omega arith)

pub returns : goal.returns
returns c = search outlined depth 20
