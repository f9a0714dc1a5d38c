-- A message that is confined to its declared bytes hangs on them alone, and is `dlt_message` over them.
--     cut-message    it is the answer of `dlt_message` over the bytes up to the declared end, where Incomplete is read as an overrun
--     confined-own   once the headers are read and the declared bytes are there, the answer is the same whatever stands behind them
--     value-own      and a value that ends within the first bytes is given by them alone
-- Assumes nothing.
use Prim.Native.Nat.{ℕ, ◌≤◌}
use native.Mathlib.Omega.{arith}
use mathlib.Core.Path.{◌≡◌, sym, ap, ◌∙◌}
use mathlib.Core.Bool.{Bool}
use mathlib.Core.List.{List, ◌++◌}
use lib.ListN.{length, take, drop, take-append-drop}
use lib.Seq.{take-append-le, length-take-le}
use Rattle.wire.specs.Answer.{Ans, Parser}
use Rattle.wire.specs.Answer.Ans.{done, need, hickup, broken}
use Rattle.wire.specs.Parser.{ret, ◌>>=◌}
use Rattle.wire.proofs.Step.{then_done}
use Rattle.headers.proofs.Inverse.{split, same_value, no_hickup, no_broken}
use Rattle.filter.specs.declared.Filter.{Filter}
use Rattle.parse.specs.Message.{routed, body, message}
use Rattle.parse.specs.declared.Headers.{Headers}
use Rattle.confined.specs.Confined.{shut, overrun, inside_of_lem, inside, confined_body_of, confined_message_of}
use Rattle.confined.specs.declared.ConfinedMessage.{ConfinedMessage}
use Rattle.confined.proofs.Laws.{cut}
use Rattle.owned.specs.Overran.{end_of}
use Rattle.owned.proofs.Opening.{routed_room, routed_own}

-- two rules behind one that is done
then_then : {A B C : Type 0} (p : Parser A) (k : A → Parser B) (m : B → Parser C) (s : List ℕ) (at : ℕ) {a : A} {b : ℕ} → p s at ≡ done a b → ((p >>= k) >>= m) s at ≡ (k a >>= m) s b
unfolding ◌>>=◌
then_then p k m s at e = rw e

-- a value of a rule that was shown a part ends where the part ends
shut_ends : {A : Type 0} (over : A) (end : ℕ) (x : Ans A) {a : A} {b : ℕ} → shut over end x ≡ done a b → b ≡ end
shut_ends over end (done a b) e = (same_value e).1
shut_ends over end (need n) e = (same_value e).1
shut_ends over end (hickup r) e = no_hickup e
shut_ends over end broken e = no_broken e

-- the answer at the declared end
abbrev pub shut_by : Headers → ℕ → Ans ConfinedMessage → Ans ConfinedMessage
shut_by h n = shut (overrun h.header.payload_length) (end_of h n)

module _ (f : List ℕ) (filter : Filter) (t : Bool) where
  -- headers that were read
  module _ (s : List ℕ) (h : Headers) (n : ℕ) (e : routed f filter t s 0 ≡ done h n) where
    -- all declared bytes are there
    pub front_long : length (take (end_of h n) s) ≡ end_of h n
    front_long = length-take-le (end_of h n) s (routed_room f filter t s h n e)

    -- and give the same headers
    pub front_routed : routed f filter t (take (end_of h n) s) 0 ≡ done h n
    front_routed =
        routed_own f filter t (take (end_of h n) s) (drop (end_of h n) s) h n
        (ap (λ (x : List ℕ). routed f filter t x 0) (take-append-drop (end_of h n) s) ∙ e)
        (omega (arith, front_long))

    -- step 7 over them
    pub cut_body : confined_message_of f filter t s 0 ≡ shut_by h n (inside h (take (end_of h n) s) n)
    unfolding confined_message_of confined_body_of
    cut_body =
        then_done (routed f filter t) confined_body_of s 0 e
        ∙ cut h.header.payload_length (overrun h.header.payload_length) (inside h) s n (routed_room f filter t s h n e)

    pub cut_message : confined_message_of f filter t s 0 ≡ shut (overrun h.header.payload_length) (end_of h n) ((message f filter t >>= (λ m. ret (inside_of_lem m))) (take (end_of h n) s) 0)
    unfolding message inside
    cut_message = cut_body ∙ ap (shut_by h n) (sym (then_then (routed f filter t) body (λ m. ret (inside_of_lem m)) (take (end_of h n) s) 0 front_routed))

  module _ (s u : List ℕ) where
    pub confined_own : (h : Headers) (n : ℕ) → routed f filter t (s ++ u) 0 ≡ done h n → end_of h n ≤ length s → confined_message_of f filter t s 0 ≡ confined_message_of f filter t (s ++ u) 0
    confined_own h n e room =
        cut_body s h n (routed_own f filter t s u h n e room)
        ∙ ap (λ (x : List ℕ). shut_by h n (inside h x n)) (sym (take-append-le (end_of h n) s u room))
        ∙ sym (cut_body (s ++ u) h n e)

    pub value_own : (c : ConfinedMessage) (e : ℕ) → confined_message_of f filter t (s ++ u) 0 ≡ done c e → e ≤ length s → confined_message_of f filter t s 0 ≡ done c e
    unfolding confined_message_of
    value_own c e q w =
        let r = split (routed f filter t) confined_body_of (s ++ u) 0 q in
        let z : e ≡ end_of r.value r.mid = shut_ends _ _ (inside r.value (take (end_of r.value r.mid) (s ++ u)) r.mid) (sym (cut_body (s ++ u) r.value r.mid r.first) ∙ q) in
        confined_own r.value r.mid r.first (omega (arith, z, w)) ∙ q
