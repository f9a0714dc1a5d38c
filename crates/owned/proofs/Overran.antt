-- AN OVERRUN, EXACTLY: its headers are read, and over the bytes up to the declared end `dlt_message` waits.
--     overran    every overrun is that
--     overruns   and all that is an overrun
-- Assumes nothing.
use Prim.Native.Nat.{ℕ}
use native.Mathlib.Omega.{arith}
use mathlib.Core.Path.{◌≡◌, refl, sym, ap, ◌∙◌, subst}
use mathlib.Core.Bool.{Bool}
use mathlib.Core.List.{List}
use lib.ListN.{take}
use Rattle.wire.specs.Answer.{Ans}
use Rattle.wire.specs.Answer.Ans.{done, need, hickup, broken}
use Rattle.wire.specs.Parser.{ret, follow, ◌>>=◌}
use Rattle.wire.specs.Lawful.{Waits}
use Rattle.wire.proofs.Step.{then_done, then_need}
use Rattle.headers.proofs.Inverse.{split, same_value, no_hickup, no_broken}
use Rattle.filter.specs.declared.Filter.{Filter}
use Rattle.parse.specs.Message.{routed, body, message}
use Rattle.parse.specs.declared.Headers.{Headers}
use Rattle.parse.specs.declared.ParsedMessage.{ParsedMessage}
use Rattle.confined.specs.Confined.{overrun, inside_of_lem, inside, confined_body_of, confined_message_of}
use Rattle.confined.specs.declared.ConfinedMessage.{ConfinedMessage}
use Rattle.owned.specs.Overran.{end_of, Overran}
use Rattle.owned.proofs.Own.{shut_by, front_routed, cut_body}

-- no message is an overrun by itself
not_inside : (m : ParsedMessage) {X : Type 0} {k : ℕ} → ConfinedMessage.Overrun k ≡ inside_of_lem m → X
unfolding inside_of_lem
not_inside (ParsedMessage.Item m) e = let z : ◌≡◌ {A = ℕ} 0 1 = cc in absurd (omega arith)
not_inside (ParsedMessage.FilteredOut n) e = let z : ◌≡◌ {A = ℕ} 0 1 = cc in absurd (omega arith)

same_length : {j k : ℕ} → ConfinedMessage.Overrun k ≡ ConfinedMessage.Overrun j → k ≡ j
same_length e = cc

module _ (f : List ℕ) (filter : Filter) (t : Bool) (s : List ℕ) where
  module _ (h : Headers) (n : ℕ) (read : routed f filter t s 0 ≡ done h n) where
    abbrev front : List ℕ
    front = take (end_of h n) s

    front_body : message f filter t front 0 ≡ body h front n
    unfolding message
    front_body = then_done (routed f filter t) body front 0 (front_routed f filter t s h n read)

    over_read : (k e : ℕ) (x : Ans ParsedMessage) → body h front n ≡ x → shut_by h n (follow x (λ m. ret (inside_of_lem m)) front) ≡ done (ConfinedMessage.Overrun k) e → Overran f filter t s k e
    unfolding ret
    over_read k e (done m b) q g = not_inside m (same_value g).0
    over_read k e (need j) q g =
        record { heads = h; behind = n; read = read; size = same_length (same_value g).0; end = (same_value g).1; waits = rw ((same_value g).1, front_body, q) tt }
    over_read k e (hickup r) q g = no_hickup g
    over_read k e broken q g = no_broken g

    over_waits : (x : Ans ParsedMessage) → body h front n ≡ x → Waits x → confined_message_of f filter t s 0 ≡ done (overrun h.header.payload_length) (end_of h n)
    unfolding inside
    over_waits (done m b) q w = absurd w
    over_waits (need j) q w = cut_body f filter t s h n read ∙ ap (shut_by h n) (then_need (body h) _ front n q)
    over_waits (hickup r) q w = absurd w
    over_waits broken q w = absurd w

  pub overran : (k e : ℕ) → confined_message_of f filter t s 0 ≡ done (ConfinedMessage.Overrun k) e → Overran f filter t s k e
  unfolding confined_message_of inside ◌>>=◌
  overran k e q =
      let r = split (routed f filter t) confined_body_of s 0 q in
      over_read r.value r.mid r.first k e (body r.value (take (end_of r.value r.mid) s) r.mid) refl (sym (cut_body f filter t s r.value r.mid r.first) ∙ q)

  pub overruns : (k e : ℕ) → Overran f filter t s k e → confined_message_of f filter t s 0 ≡ done (ConfinedMessage.Overrun k) e
  overruns k e o =
      let h = o.heads in
      let n = o.behind in
      let w : Waits (message f filter t (take (end_of h n) s) 0) = subst (λ (x : ℕ). Waits (message f filter t (take x s) 0)) o.end o.waits in
      over_waits h n o.read (body h (take (end_of h n) s) n) refl (rw (front_body h n o.read) at w)
      ∙ ap (λ (x : ℕ). done (overrun x) (end_of h n)) (sym o.size)
      ∙ ap (done (overrun k)) (sym o.end)
