-- Every combinator keeps a rule thrifty, so a rule made of thrifty ones is; and a thrifty rule hangs on the bytes of its value alone (`own_of`).
-- Assumes nothing.
use Prim.Native.Nat.{ℕ, zero, suc, ◌+◌, ◌-◌, ◌≤◌, ◌<◌}
use native.Mathlib.Omega.{arith}
use mathlib.Core.Path.{◌≡◌, refl, sym, ◌∙◌, subst}
use mathlib.Core.Bool.{Bool, true, false}
use mathlib.Core.List.{List, ◌++◌}
use lib.ListN.{length, length-append}
use lib.Dec.{leb}
use borrow.Author.Tests.{leb-false}
use Rattle.wire.specs.Answer.{Ans, Parser}
use Rattle.wire.specs.Answer.Ans.{done, need, hickup, broken}
use Rattle.wire.specs.Parser.{pick, ret, here, refuse, fail, choose, follow, ◌>>=◌, asking, having, fixed, times, lacking}
use Rattle.wire.specs.Lawful.{Kept}
use Rattle.wire.specs.Number.{number, number_of, numeric}
use Rattle.wire.specs.Run.{range, bytes}
use Rattle.wire.proofs.Laws.{ret_law, here_law, refuse_law, fail_law, then_law}
use Rattle.wire.proofs.Digits.{number_law}
use Rattle.wire.proofs.Runs.{bytes_law}
use Rattle.wire.proofs.Step.{ends}
use Rattle.strings.specs.Text.{text, text_need, ended_text, identified}
use Rattle.strings.proofs.Strings.{text_law}
use Rattle.headers.proofs.Inverse.{same_value, no_need, no_hickup, no_broken}
use Rattle.worth.proofs.Worth.{no_hickup_need, no_broken_need}
use Rattle.owned.specs.Thrifty.{Thrifty, Both}

-- ---- rules that never wait
pub ret_both : {A : Type 0} (a : A) → Both (ret a)
unfolding ret
ret_both a = record { lawful = ret_law a; thrifty = λ s t at a b n h e g. no_need (sym e) }

pub here_both : Both here
unfolding here
here_both = record { lawful = here_law; thrifty = λ s t at a b n h e g. no_need (sym e) }

pub refuse_both : {A : Type 0} (r : ℕ) → Both (refuse {A = A} r)
unfolding refuse
refuse_both r = record { lawful = refuse_law r; thrifty = λ s t at a b n h e g. no_hickup g }

pub fail_both : {A : Type 0} → Both (fail {A = A})
unfolding fail
fail_both = record { lawful = fail_law; thrifty = λ s t at a b n h e g. no_broken g }

pub choose_both : {A : Type 0} (t : Bool) (p q : Parser A) → Both p → Both q → Both (choose t p q)
unfolding choose
choose_both true p q hp hq = hp
choose_both false p q hp hq = hq

-- ---- n bytes, all of which the value takes
sized_thrifty : {A : Type 0} (n : ℕ) (m : List ℕ → ℕ → ℕ) (f : List ℕ → ℕ → A) → Thrifty (asking n m (λ s at. done (f s at) (at + n)))
unfolding asking
sized_thrifty {A} n m f s t at a b k h e g = by (leb n (length s - at)) refl e
  where
    end : (x : Bool) → pick x (done (f (s ++ t) at) (at + n)) (need (m (s ++ t) at)) ≡ done a b → b ≡ at + n
    end true q = (same_value q).1
    end false q = no_need q

    by : (x : Bool) → leb n (length s - at) ≡ x → pick x (done (f s at) (at + n)) (need (m s at)) ≡ need k → length s < b
    by true q z = no_need (sym z)
    by false q z = let l : length s - at < n = leb-false n (length s - at) q in omega (arith, end (leb n (length (s ++ t) - at)) g, l)

pub number_both : (big : Bool) (w : ℕ) → Both (number big w)
unfolding number fixed having
number_both big w = record { lawful = number_law big w; thrifty = sized_thrifty w (lacking w) (number_of big w) }

pub bytes_both : (n : ℕ) → Both (bytes n)
unfolding bytes fixed having
bytes_both n = record { lawful = bytes_law n; thrifty = sized_thrifty n (lacking n) (λ s at. range at n) }

pub text_both : (n : ℕ) → Both (text n)
unfolding text
text_both n = record { lawful = text_law n; thrifty = sized_thrifty n (text_need n) (ended_text n) }

pub id_both : Both identified
unfolding identified
id_both = text_both 4

-- ---- one rule after another
module _ {A B : Type 0} (p : Parser A) (k : A → Parser B) (hp : Both p) (hk : (a : A) → Both (k a)) (s t : List ℕ) (at : ℕ) (inside : at ≤ length s) {c : B} {b : ℕ} where
  later : (x : Ans A) → p (s ++ t) at ≡ x → follow x k (s ++ t) ≡ done c b → ((a : A) (m : ℕ) → p (s ++ t) at ≡ done a m → length s < m) → length s < b
  later (done a m) q g f =
      let l : length (s ++ t) ≡ length s + length t = length-append s t in
      let w = ends {p = p} (s ++ t) at hp.lawful (omega arith) q in
      omega (arith, f a m q, ends {p = k a} (s ++ t) m (hk a).lawful w.1 g)
  later (need m) q g f = no_need g
  later (hickup r) q g f = no_hickup g
  later broken q g f = no_broken g

  follow_thrifty : {n : ℕ} (x : Ans A) → p s at ≡ x → follow x k s ≡ need n → follow (p (s ++ t) at) k (s ++ t) ≡ done c b → length s < b
  follow_thrifty (done a m) q e g =
      let z : p (s ++ t) at ≡ done a m = subst (λ (x : Ans A). Kept x (length t) (p (s ++ t) at)) q (hp.lawful.kept s t at inside) in
      (hk a).thrifty s t m _ _ _ (ends {p = p} s at hp.lawful inside q).1 e (rw z at g)
  follow_thrifty (need m) q e g = later (p (s ++ t) at) refl g (λ a m' z. hp.thrifty s t at a m' m inside q z)
  follow_thrifty (hickup r) q e g = no_hickup_need e
  follow_thrifty broken q e g = no_broken_need e

pub then_both : {A B : Type 0} (p : Parser A) (k : A → Parser B) → Both p → ((a : A) → Both (k a)) → Both (p >>= k)
unfolding ◌>>=◌
then_both p k hp hk = record { lawful = then_law p k hp.lawful (λ a. (hk a).lawful); thrifty = λ s t at c b n h e g. follow_thrifty p k hp hk s t at h (p s at) refl e g }

pub numeric_both : {A : Type 0} (meaning : ℕ → A) (big : Bool) (w : ℕ) → Both (numeric meaning big w)
unfolding numeric
numeric_both meaning big w = then_both (number big w) _ (number_both big w) (λ n. ret_both (meaning n))

pub times_both : {A : Type 0} (n : ℕ) (p : Parser A) → Both p → Both (times n p)
unfolding times
times_both zero p h = ret_both tt
times_both (suc n) p h = then_both p _ h (λ a. times_both n p h)

-- for `search`: a rule's own is `search (thrift, ..) depth 20`, with those of the rules that it names
pub ruleset thrift = (then_both, choose_both, times_both, ret_both, here_both, refuse_both, fail_both, number_both, numeric_both, bytes_both, text_both, id_both)

-- ---- a thrifty rule that is done within the first bytes is done so by them alone
pub own_of : {A : Type 0} (p : Parser A) → Both p → (s t : List ℕ) (at : ℕ) (a : A) (b : ℕ) → at ≤ length s → p (s ++ t) at ≡ done a b → b ≤ length s → p s at ≡ done a b
own_of {A} p h s t at a b w e l = by (p s at) refl
  where
    kept : (x : Ans A) → p s at ≡ x → Kept x (length t) (p (s ++ t) at)
    kept x q = subst (λ (x : Ans A). Kept x (length t) (p (s ++ t) at)) q (h.lawful.kept s t at w)

    by : (x : Ans A) → p s at ≡ x → p s at ≡ done a b
    by (done c d) q = let k : p (s ++ t) at ≡ done c d = kept (done c d) q in q ∙ sym k ∙ e
    by (need n) q = absurd (omega (arith, h.thrifty s t at a b n w q e))
    by (hickup r) q = let k : p (s ++ t) at ≡ hickup r = kept (hickup r) q in no_hickup (sym k ∙ e)
    by broken q = let k : p (s ++ t) at ≡ broken = kept broken q in no_broken (sym k ∙ e)
