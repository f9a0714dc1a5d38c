-- What a need is worth, of `dlt_message` as its contract states it: with the filter's bytes, of which it is not known that they are good.
--     whole-given   where step 5 gives the need, it is the call's, under every filter whose bytes are good
--     whole-worth   the call said Incomplete, the headers are read, the message ends by its length: exactly the need in bytes of any value decides it
--     whole-quiet   the same of a message that isn't verbose, whatever the filter
--     whole-whose   whose need it is
-- That fewer bytes leave it Incomplete is `whole-honest` (facts). Assumes nothing.
use Prim.Native.Nat.{ℕ}
use native.Mathlib.Omega.{arith}
use mathlib.Core.Path.{◌≡◌, refl, ap}
use mathlib.Core.Bool.{Bool, false}
use mathlib.Core.List.{List, ◌++◌}
use lib.ListN.{length}
use Rattle.wire.specs.Answer.{Carried, Numbered}
use Rattle.wire.specs.Answer.Ans.{done, need}
use Rattle.wire.proofs.Laws.{of_need}
use Rattle.filter.specs.Filter.{filter_of}
use Rattle.filter.specs.declared.Filter.{Filter}
use Rattle.filter.specs.declared.FilterError.{FilterError}
use Rattle.std.specs.Prelude.{Result, Ok, Err}
use Rattle.payload.specs.Payload.{is_verbose_of}
use Rattle.parse.specs.Message.{message, judged, message_of, numbered_answer}
use Rattle.parse.specs.declared.ParsedMessage.{ParsedMessage}
use Rattle.worth.specs.Opening.{Opening, opening}
use Rattle.worth.specs.Need.{Short, ByLength, Whose, DecidedCall}
use Rattle.worth.proofs.Worth.{given, worth, of_step_5, whose}

abbrev waits : ℕ → Numbered ParsedMessage
waits n = record { number = 2; carries = Carried.need n }

module _ (f : List ℕ) (t : Bool) (s : List ℕ) where
  -- a call that says Incomplete had a good filter
  record Asked (n : ℕ) : Type 0 where
    filter : Filter
    good : filter_of f ≡ Ok filter
    waiting : message f filter t s 0 ≡ need n

  asked : (n : ℕ) (v : Result Filter FilterError) → filter_of f ≡ v → numbered_answer (judged (λ filter. message f filter t s 0) v) ≡ waits n → Asked n
  unfolding judged
  asked n (Ok filter) q e = record { filter = filter; good = q; waiting = of_need (message f filter t s 0) n e }
  asked n (Err FilterError.Retired) q e = absurd (omega (arith, ap (λ (x : Numbered ParsedMessage). x.number) e))
  asked n (Err FilterError.Bad) q e = absurd (omega (arith, ap (λ (x : Numbered ParsedMessage). x.number) e))

  pub whole_given : (filter : Filter) (n : ℕ) (l : Opening) → filter_of f ≡ Ok filter → Short t s n l → numbered_answer (message_of f t s) ≡ waits n
  unfolding message_of judged
  whole_given filter n l q short = rw (q, given f filter t s n l short)

  pub whole_whose : (n : ℕ) → numbered_answer (message_of f t s) ≡ waits n → (filter : Filter) × (filter_of f ≡ Ok filter) × Whose f filter t s n
  unfolding message_of
  whole_whose n e = let a = asked n (filter_of f) refl e in (a.filter, a.good, whose f a.filter t s n a.waiting)

  module _ (n : ℕ) (incomplete : numbered_answer (message_of f t s) ≡ waits n) (l : Opening) (behind : ℕ) (read : opening t s 0 ≡ done l behind)
      (more : List ℕ) (enough : length more ≡ n) where
    judged_worth : (filter : Filter) → filter_of f ≡ Ok filter → message f filter t s 0 ≡ need n → ByLength f filter s l → DecidedCall (length (s ++ more)) (message_of f t (s ++ more))
    unfolding message_of judged
    judged_worth filter q e c = rw q (worth f filter t s n l (of_step_5 f filter t s n l behind read e c) c more enough)

    pub whole_worth : ((filter : Filter) → filter_of f ≡ Ok filter → ByLength f filter s l) → DecidedCall (length (s ++ more)) (message_of f t (s ++ more))
    unfolding message_of
    whole_worth c = let a = asked n (filter_of f) refl incomplete in judged_worth a.filter a.good a.waiting (c a.filter a.good)

    pub whole_quiet : is_verbose_of l.extended ≡ false → DecidedCall (length (s ++ more)) (message_of f t (s ++ more))
    whole_quiet v = whole_worth (λ filter q. ByLength.quiet v)
