-- The two facts of `dlt_message` as its contract states it, in both modes and under every filter; and the idle programs that it shuts out.
use Prim.Native.Nat.{ℕ, ◌<◌}
use native.Mathlib.Omega.{arith}
use mathlib.Core.Path.{◌≡◌, refl, sym, ap, ◌∙◌}
use mathlib.Core.Bool.{Bool, false}
use mathlib.Core.List.{List, [], ◌++◌}
use lib.ListN.{length}
use Rattle.wire.specs.Answer.{Ans, Carried, Numbered, numbered}
use Rattle.filter.specs.Filter.{filter_of}
use Rattle.filter.specs.declared.Filter.{Filter}
use Rattle.filter.specs.declared.FilterError.{FilterError}
use Rattle.std.specs.Prelude.{Result, Ok, Err}
use Rattle.parse.specs.Message.{Answer, judged, message_of, numbered_answer}
use Rattle.parse.specs.declared.ParsedMessage.{ParsedMessage}
use Rattle.facts.proofs.Laws.{message_stable, message_honest}
use Rattle.facts.proofs.Vectors.{Sum, of_answer, sum, item_of_lem, sums, p1, p2, p2_says}

-- the two facts pass through step 1, of any rule: x is what it answers, y what it answers with more bytes
module _ {A : Type 0} (x y : Filter → Ans A) where
  pub judged_stable : ((filter : Filter) → ((numbered (x filter)).number ≡ 2 → ⊥) → y filter ≡ x filter) → (v : Result Filter FilterError) → ((numbered_answer (judged x v)).number ≡ 2 → ⊥) → judged y v ≡ judged x v
  unfolding judged
  judged_stable h (Ok filter) w = ap Answer.answered (h filter w)
  judged_stable h (Err FilterError.Retired) w = refl
  judged_stable h (Err FilterError.Bad) w = refl

  pub judged_honest : (n : ℕ) → ((filter : Filter) → numbered (x filter) ≡ record { number = 2; carries = Carried.need n } → (numbered (y filter)).number ≡ 2)
      → (v : Result Filter FilterError) → numbered_answer (judged x v) ≡ record { number = 2; carries = Carried.need n } → (numbered_answer (judged y v)).number ≡ 2
  unfolding judged
  judged_honest n h (Ok filter) e = h filter e
  judged_honest n h (Err FilterError.Retired) e = absurd (omega (arith, ap (λ (x : Numbered A). x.number) e))
  judged_honest n h (Err FilterError.Bad) e = absurd (omega (arith, ap (λ (x : Numbered A). x.number) e))

module _ (f : List ℕ) (stored : Bool) (s t : List ℕ) where
  -- an answer other than Incomplete is the same with more bytes added
  pub whole_stable : ((numbered_answer (message_of f stored s)).number ≡ 2 → ⊥) → message_of f stored (s ++ t) ≡ message_of f stored s
  unfolding message_of
  whole_stable w = judged_stable _ _ (λ filter w. message_stable f filter stored s t w) (filter_of f) w

  -- after Incomplete with need n, fewer than n more bytes leave it Incomplete
  pub whole_honest : (n : ℕ) → numbered_answer (message_of f stored s) ≡ record { number = 2; carries = Carried.need n } → length t < n
      → (numbered_answer (message_of f stored (s ++ t))).number ≡ 2
  unfolding message_of
  whole_honest n e few = judged_honest _ _ n (λ filter e. message_honest f filter stored s t n e few) (filter_of f) e

-- ---- the idle programs: at P1 the contract's answer is done, an item with an id, and at P2 one with another
p1_says : sum false p1 ≡ item_of_lem (Sum.id 704643072) 8
p1_says = sums.0

-- one that refuses everything (1, 3, 4), and one that says Incomplete (2) always
pub p1_done : (numbered_answer (message_of [] false p1)).number ≡ 0
p1_done = ap (λ (x : Numbered Sum). x.number) p1_says

-- one with a constant answer
pub not_constant : (x : Answer ParsedMessage) → x ≡ message_of [] false p1 → x ≡ message_of [] false p2 → ⊥
not_constant x d e =
    let q : item_of_lem (Sum.id 704643072) 8 ≡ item_of_lem (Sum.id 42) 8 = sym p1_says ∙ ap (λ (x : Answer ParsedMessage). of_answer x p1) (sym d ∙ e) ∙ p2_says p1 in
    let c : ◌≡◌ {A = Carried Sum} (Carried.value (Sum.id 704643072) 8) (Carried.value (Sum.id 42) 8) = ap (λ (x : Numbered Sum). x.carries) q in
    let z : ◌≡◌ {A = ℕ} 704643072 42 = cc in
    omega arith
