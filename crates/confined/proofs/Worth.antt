-- What a need of the confined reading is worth. Once the headers are read, it waits for declared bytes alone, and these decide it, verbose or not.
-- Assumes nothing.
use Prim.Native.Nat.{ℕ, ◌-◌, ◌≤◌}
use native.Mathlib.Omega.{arith}
use mathlib.Core.Path.{◌≡◌, refl, sym, subst}
use mathlib.Core.Bool.{Bool, true, false}
use mathlib.Core.List.{List, ◌++◌}
use lib.ListN.{length, length-append}
use lib.Dec.{leb}
use borrow.Author.Tests.{leb-true, leb-false}
use Rattle.wire.specs.Answer.Ans.{done, need}
use Rattle.wire.specs.Lawful.{Waits}
use Rattle.wire.proofs.Step.{then_done}
use Rattle.headertype.specs.HeaderType.{overall_length_of}
use Rattle.filter.specs.declared.Filter.{Filter}
use Rattle.parse.specs.Message.{headers_of_lem, routed}
use Rattle.worth.specs.Opening.{Opening, opening}
use Rattle.worth.specs.Need.{Short}
use Rattle.worth.proofs.Worth.{begins, payload_end, still, heads_read, given_by, short_by, need_by}
use Rattle.confined.specs.Confined.{confined_body_of, confined_message_of}
use Rattle.confined.specs.Need.{Lacks}
use Rattle.confined.proofs.Laws.{confined_decides}

module _ (f : List ℕ) (filter : Filter) (t : Bool) where
  -- the headers are read and the declared bytes are there: decided
  pub decided_there : (s : List ℕ) (l : Opening) (behind : ℕ) → opening t s 0 ≡ done l behind → overall_length_of l.header ≤ length s - l.start → Waits (confined_message_of f filter t s 0) → ⊥
  unfolding confined_message_of confined_body_of headers_of_lem
  decided_there s l behind read there w =
      let q = then_done (routed f filter t) confined_body_of s 0 (heads_read t s l behind read f filter there) in
      confined_decides _ _ _ s behind (omega (arith, payload_end t s l behind read, begins t s l behind read)) (subst Waits q w)

  -- step 5 gives the need
  pub confined_given : (s : List ℕ) (n : ℕ) (l : Opening) → Short t s n l → confined_message_of f filter t s 0 ≡ need n
  unfolding confined_message_of
  confined_given s n l short = given_by confined_body_of f filter t s n l short

  -- exactly that many more bytes, of any value, decide it
  pub confined_worth : (s : List ℕ) (n : ℕ) (l : Opening) → Short t s n l → (more : List ℕ) → length more ≡ n → Waits (confined_message_of f filter t (s ++ more) 0) → ⊥
  confined_worth s n l short more e =
      decided_there (s ++ more) l short.behind (still t s l short.behind short.read more)
      (omega (arith, length-append s more, short.missing, begins t s l short.behind short.read))

  module _ (s : List ℕ) (n : ℕ) where
    -- headers that were read, and then a need: it is step 5's
    pub confined_short : (l : Opening) (behind : ℕ) → opening t s 0 ≡ done l behind → confined_message_of f filter t s 0 ≡ need n → Short t s n l
    unfolding confined_message_of
    confined_short l behind read e = by (leb (overall_length_of l.header) (length s - l.start)) refl
      where
        by : (b : Bool) → leb (overall_length_of l.header) (length s - l.start) ≡ b → Short t s n l
        by true q = absurd (decided_there s l behind read (leb-true _ _ q) (subst Waits (sym e) tt))
        by false q = short_by confined_body_of f filter t s n e l behind read (leb-false _ _ q)

    -- whose need it is
    pub confined_lacks : confined_message_of f filter t s 0 ≡ need n → Lacks t s n
    unfolding confined_message_of
    confined_lacks e = need_by confined_body_of f filter t s n e Lacks.early (λ l behind q. Lacks.short l (confined_short l behind q e))
