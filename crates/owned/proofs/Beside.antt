-- What the confined reading gives, in the words of `dlt_message`.
--     same-inside     a message that ends within its declared bytes is the same in both
--     beside          beside each answer of the confined reading, what `dlt_message` answers (`Beside`)
--     same-outside    so that an item of the confined reading is one of `dlt_message` that ends within its declared bytes
--     same-filtered   and what is filtered out there is filtered out here, with as many bytes used
-- Assumes nothing.
use Prim.Native.Nat.{ℕ, ◌≤◌}
use native.Mathlib.Omega.{arith}
use mathlib.Core.Path.{◌≡◌, refl, sym, ap, ◌∙◌, subst}
use mathlib.Core.Bool.{Bool, true, false}
use mathlib.Core.List.{List, ◌++◌}
use lib.ListN.{length, take, drop, take-append-drop}
use Rattle.wire.specs.Answer.{Ans}
use Rattle.wire.specs.Answer.Ans.{done, need, hickup, broken}
use Rattle.wire.specs.Parser.{pick, choose, ◌>>=◌}
use Rattle.wire.specs.Lawful.{Kept}
use Rattle.wire.specs.Run.{bytes}
use Rattle.wire.proofs.Step.{ends, then_done, then_need, then_hickup, then_broken, ret_is}
use Rattle.headers.proofs.Inverse.{split, of_ret, of_bytes}
use Rattle.filter.specs.declared.Filter.{Filter}
use Rattle.payload.specs.Payload.{payload}
use Rattle.parse.specs.Message.{routed, is_big_of, item_of, passed, item, body, message}
use Rattle.parse.specs.declared.Headers.{Headers}
use Rattle.parse.specs.declared.Message.{Message}
use Rattle.parse.specs.declared.ParsedMessage.{ParsedMessage}
use Rattle.confined.specs.Confined.{inside_of_lem, inside, confined_body_of, confined_message_of}
use Rattle.confined.specs.declared.ConfinedMessage.{ConfinedMessage}
use Rattle.owned.specs.Overran.{end_of}
use Rattle.owned.specs.Beside.{Past, Beside}
use Rattle.owned.proofs.Thrifty.{own_of}
use Rattle.owned.proofs.Rules.{body_both}
use Rattle.owned.proofs.Own.{shut_by, front_long, cut_body}

-- a message that is filtered out ends where it says
dropped_ends : (h : Headers) (s : List ℕ) (at k b : ℕ) → body h s at ≡ done (ParsedMessage.FilteredOut k) b → b ≡ end_of h at
unfolding body choose passed item item_of
dropped_ends h s at k b e = by h.filtered e
  where
    by : (t : Bool) → pick t (passed h.header.payload_length s at) (item h s at) ≡ done (ParsedMessage.FilteredOut k) b → b ≡ end_of h at
    by true q =
        let r = split (bytes h.header.payload_length) _ s at q in
        (of_ret s r.mid (ParsedMessage.FilteredOut h.header.payload_length) r.second).1 ∙ (of_bytes h.header.payload_length s at r.first).1
    by false q =
        let r = split (payload (is_big_of h.header.endianness) h.extended_header h.header.payload_length) _ s at q in
        let c = (of_ret s r.mid (item_of h r.value) r.second).0 in
        let z : ◌≡◌ {A = ℕ} 0 1 = cc in
        absurd (omega arith)

module _ (f : List ℕ) (filter : Filter) (t : Bool) (s : List ℕ) where
  -- ---- headers that were read
  module _ (h : Headers) (n : ℕ) (read : routed f filter t s 0 ≡ done h n) where
    abbrev front : List ℕ
    front = take (end_of h n) s

    room : n ≤ length front
    room = omega (arith, front_long f filter t s h n read)

    from_body : message f filter t s 0 ≡ body h s n
    unfolding message
    from_body = then_done (routed f filter t) body s 0 read

    -- all bytes are the declared ones and the rest
    whole : body h (front ++ drop (end_of h n) s) n ≡ body h s n
    whole = ap (λ (x : List ℕ). body h x n) (take-append-drop (end_of h n) s)

    stays : (x : Ans ParsedMessage) → body h front n ≡ x → Kept x (length (drop (end_of h n) s)) (body h (front ++ drop (end_of h n) s) n)
    stays x e = subst (λ (x : Ans ParsedMessage). Kept x (length (drop (end_of h n) s)) (body h (front ++ drop (end_of h n) s) n)) e ((body_both h).lawful.kept front (drop (end_of h n) s) n room)

    pub same_inside : (m : ParsedMessage) (b : ℕ) → message f filter t s 0 ≡ done m b → b ≤ end_of h n → confined_message_of f filter t s 0 ≡ done (inside_of_lem m) (end_of h n)
    unfolding inside
    same_inside m b e w =
        let i : body h front n ≡ done m b = own_of (body h) (body_both h) front (drop (end_of h n) s) n m b room (whole ∙ sym from_body ∙ e) (omega (arith, front_long f filter t s h n read, w)) in
        cut_body f filter t s h n read ∙ ap (shut_by h n) (then_done (body h) _ front n i ∙ ret_is (inside_of_lem m) front b)

    -- what waits over the declared bytes ends past them
    past : {k : ℕ} → body h front n ≡ need k → (y : Ans ParsedMessage) → body h s n ≡ y → Past (end_of h n) y
    past {k} e (done m b) q = omega (arith, front_long f filter t s h n read, (body_both h).thrifty front (drop (end_of h n) s) n m b k room e (whole ∙ q))
    past e (need m) q = tt
    past e (hickup r) q = tt
    past e broken q = tt

    beside_body : (x : Ans ParsedMessage) → body h front n ≡ x → Beside (confined_message_of f filter t s 0) (message f filter t s 0)
    unfolding inside inside_of_lem
    beside_body (done (ParsedMessage.Item m) b) e =
        let k : body h (front ++ drop (end_of h n) s) n ≡ done (ParsedMessage.Item m) b = stays _ e in
        let w = ends {p = body h} front n (body_both h).lawful room e in
        rw (cut_body f filter t s h n read ∙ ap (shut_by h n) (then_done (body h) _ front n e ∙ ret_is _ front b))
        (b, from_body ∙ sym whole ∙ k, omega (arith, front_long f filter t s h n read, w.1))
    beside_body (done (ParsedMessage.FilteredOut j) b) e =
        let k : body h (front ++ drop (end_of h n) s) n ≡ done (ParsedMessage.FilteredOut j) b = stays _ e in
        rw (cut_body f filter t s h n read ∙ ap (shut_by h n) (then_done (body h) _ front n e ∙ ret_is _ front b))
        (from_body ∙ sym whole ∙ k ∙ ap (done (ParsedMessage.FilteredOut j)) (dropped_ends h front n j b e))
    beside_body (need j) e = rw (cut_body f filter t s h n read ∙ ap (shut_by h n) (then_need (body h) _ front n e), from_body) (past e (body h s n) refl)
    beside_body (hickup r) e =
        let k : body h (front ++ drop (end_of h n) s) n ≡ hickup r = stays _ e in
        rw (cut_body f filter t s h n read ∙ ap (shut_by h n) (then_hickup (body h) _ front n e)) (from_body ∙ sym whole ∙ k)
    beside_body broken e =
        let k : body h (front ++ drop (end_of h n) s) n ≡ broken = stays _ e in
        rw (cut_body f filter t s h n read ∙ ap (shut_by h n) (then_broken (body h) _ front n e)) (from_body ∙ sym whole ∙ k)

  pub beside : Beside (confined_message_of f filter t s 0) (message f filter t s 0)
  unfolding confined_message_of message
  beside = by (routed f filter t s 0) refl
    where
      by : (x : Ans Headers) → routed f filter t s 0 ≡ x → Beside ((routed f filter t >>= confined_body_of) s 0) ((routed f filter t >>= body) s 0)
      by (done h n) e = beside_body h n e (body h (take (end_of h n) s) n) refl
      by (need k) e = rw (then_need (routed f filter t) confined_body_of s 0 e) (then_need (routed f filter t) body s 0 e)
      by (hickup r) e = rw (then_hickup (routed f filter t) confined_body_of s 0 e) (then_hickup (routed f filter t) body s 0 e)
      by broken e = rw (then_broken (routed f filter t) confined_body_of s 0 e) (then_broken (routed f filter t) body s 0 e)

  pub same_outside : (m : Message) (e : ℕ) → confined_message_of f filter t s 0 ≡ done (ConfinedMessage.Item m) e → (b : ℕ) × (message f filter t s 0 ≡ done (ParsedMessage.Item m) b) × (b ≤ e)
  same_outside m e q = subst (λ (x : Ans ConfinedMessage). Beside x (message f filter t s 0)) q beside

  pub same_filtered : (k e : ℕ) → confined_message_of f filter t s 0 ≡ done (ConfinedMessage.FilteredOut k) e → message f filter t s 0 ≡ done (ParsedMessage.FilteredOut k) e
  same_filtered k e q = subst (λ (x : Ans ConfinedMessage). Beside x (message f filter t s 0)) q beside
