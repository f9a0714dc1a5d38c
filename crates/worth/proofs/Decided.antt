-- A message that ends by its declared length, and whose declared bytes are all there, is decided: nothing of steps 6 and 7 waits.
-- Assumes nothing.
use Prim.Native.Nat.{ℕ, ◌+◌, ◌-◌, ◌≤◌}
use native.Mathlib.Omega.{arith}
use mathlib.Core.Path.{◌≡◌, refl, sym, subst}
use mathlib.Core.Bool.{Bool, true, false}
use mathlib.Core.List.{List}
use lib.ListN.{length}
use lib.Dec.{leb}
use borrow.Author.Tests.{leb-true}
use Rattle.wire.specs.Answer.{Ans, Parser}
use Rattle.wire.specs.Answer.Ans.{done, need, hickup, broken}
use Rattle.wire.specs.Parser.{pick, follow, ret, fail, choose, ◌>>=◌}
use Rattle.wire.specs.Number.{number, number_of}
use Rattle.wire.specs.Run.{range, bytes}
use Rattle.wire.proofs.Runs.{take_done}
use Rattle.wire.proofs.Step.{then_done, fixed_done, choose_true, choose_false}
use Rattle.messageinfo.specs.MessageInfo.{control_of}
use Rattle.payload.specs.Payload.{is_verbose_of, is_control_of, control, plain, payload}
use Rattle.payload.specs.declared.PayloadContent.{PayloadContent}
use Rattle.parse.specs.Message.{item_of, passed, item, body}
use Rattle.parse.specs.declared.Headers.{Headers}
use Rattle.worth.specs.Need.{Decided}
use Rattle.std.specs.Prelude.{Option}
use Rattle.messageinfo.specs.declared.ExtendedHeader.{ExtendedHeader}

-- an answer that the next rule gives
module _ {A B : Type 0} (p : Parser A) (k : A → Parser B) (s : List ℕ) (at all : ℕ) where
  then_decided : {a : A} {b : ℕ} → p s at ≡ done a b → Decided all (k a s b) → Decided all ((p >>= k) s at)
  then_decided e h = subst (Decided all) (sym (then_done p k s at e)) h

ret_decided : {A : Type 0} (a : A) (s : List ℕ) (at : ℕ) → Decided at (ret a s at)
unfolding ret
ret_decided a s at = refl

fail_decided : (A : Type 0) (s : List ℕ) (at all : ℕ) → Decided all (fail {A = A} s at)
unfolding fail
fail_decided A s at all = tt

-- the bytes of a run, and then a value made of them
run_decided : {A : Type 0} (n : ℕ) (f : _ → A) (s : List ℕ) (at all : ℕ) → at + n ≡ all → all ≤ length s → Decided all ((bytes n >>= (λ r. ret (f r))) s at)
run_decided n f s at all e h =
    then_decided (bytes n) _ s at all (sym (take_done n s at (length s - at) refl (omega arith))) (subst (λ (b : ℕ). Decided b (ret (f (range at n)) s (at + n))) e (ret_decided _ s (at + n)))

-- an id of w bytes, and then the rest: if a payload of n bytes has room for the id
module _ (big : Bool) (w n : ℕ) (f : ℕ → _ → PayloadContent) (s : List ℕ) (at : ℕ) (there : at + n ≤ length s) where
  id_decided : Decided (at + n) (choose (leb w n) (number big w >>= (λ id. bytes (n - w) >>= (λ rest. ret (f id rest)))) fail s at)
  unfolding choose number
  id_decided = by (leb w n) refl
    where
      by : (t : Bool) → leb w n ≡ t → Decided (at + n) (pick t ((number big w >>= (λ id. bytes (n - w) >>= (λ rest. ret (f id rest)))) s at) (fail s at))
      by true e =
          let l : w ≤ n = leb-true w n e in
          then_decided (number big w) _ s at (at + n) (fixed_done w (number_of big w) s at (omega arith)) (run_decided (n - w) (f (number_of big w s at)) s (at + w) (at + n) (omega arith) there)
      by false e = fail_decided PayloadContent s at (at + n)

plain_decided : (big : Bool) (n : ℕ) (s : List ℕ) (at : ℕ) → at + n ≤ length s → Decided (at + n) (plain big n s at)
unfolding plain
plain_decided big n s at h = id_decided big 4 n PayloadContent.NonVerbose s at h

control_decided : (n : ℕ) (s : List ℕ) (at : ℕ) → at + n ≤ length s → Decided (at + n) (control n s at)
unfolding control
control_decided n s at h = id_decided true 1 n (λ id. PayloadContent.ControlMsg (control_of id)) s at h

choose_decided : {A : Type 0} (t : Bool) (p q : Parser A) (s : List ℕ) (at all : ℕ) → Decided all (p s at) → Decided all (q s at) → Decided all (choose t p q s at)
unfolding choose
choose_decided true p q s at all a b = a
choose_decided false p q s at all a b = b

payload_decided : (big : Bool) (e : Option ExtendedHeader) (n : ℕ) (s : List ℕ) (at : ℕ) → is_verbose_of e ≡ false → at + n ≤ length s → Decided (at + n) (payload big e n s at)
unfolding payload
payload_decided big e n s at v h =
    subst (Decided (at + n)) (sym (choose_false _ _ s at v))
    (choose_decided (is_control_of e) (control n) (plain big n) s at (at + n) (control_decided n s at h) (plain_decided big n s at h))

-- what follows a decided answer by a value alone is decided
mapped : {A B : Type 0} (p : Parser A) (g : A → B) (s : List ℕ) (at all : ℕ) → Decided all (p s at) → Decided all ((p >>= (λ a. ret (g a))) s at)
unfolding ◌>>=◌ ret
mapped {A} p g s at all h = by (p s at) h
  where
    by : (x : Ans A) → Decided all x → Decided all (follow x (λ a. λ s at. done (g a) at) s)
    by (done a b) d = d
    by (need n) d = d
    by (hickup r) d = d
    by broken d = d

item_decided : (h : Headers) (s : List ℕ) (at : ℕ) → is_verbose_of h.extended_header ≡ false → at + h.header.payload_length ≤ length s → Decided (at + h.header.payload_length) (item h s at)
unfolding item
item_decided h s at v l = mapped _ (item_of h) s at _ (payload_decided _ h.extended_header _ s at v l)

passed_decided : (n : ℕ) (s : List ℕ) (at : ℕ) → at + n ≤ length s → Decided (at + n) (passed n s at)
unfolding passed
passed_decided n s at l = run_decided n _ s at (at + n) refl l

module _ (h : Headers) (s : List ℕ) (at : ℕ) (there : at + h.header.payload_length ≤ length s) where
  pub dropped_decided : h.filtered ≡ true → Decided (at + h.header.payload_length) (body h s at)
  unfolding body
  dropped_decided e = subst (Decided _) (sym (choose_true _ _ s at e)) (passed_decided _ s at there)

  pub quiet_decided : is_verbose_of h.extended_header ≡ false → Decided (at + h.header.payload_length) (body h s at)
  unfolding body
  quiet_decided v = choose_decided h.filtered _ (item h) s at _ (passed_decided _ s at there) (item_decided h s at v there)
