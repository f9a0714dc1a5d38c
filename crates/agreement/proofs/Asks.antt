-- The rules of the two headers ask for the protocol's widths: each waits until that many bytes stand at its position, and then answers.
use Prim.Native.Nat.{ℕ, ◌+◌, ◌-◌, ◌≤◌, ◌<◌}
use native.Mathlib.Omega.{arith}
use native.Mathlib.Nat.{add-zero}
use mathlib.Core.Path.{◌≡◌, refl, sym, ap, ◌∙◌, subst}
use mathlib.Core.Bool.{Bool, true, false}
use mathlib.Core.List.{List}
use lib.ListN.{length}
use lib.Dec.{leb}
use borrow.Author.Tests.{leb-true, leb-false}
use Rattle.wire.specs.Answer.{Ans, Parser}
use Rattle.wire.specs.Answer.Ans.{done, need, hickup, broken}
use Rattle.wire.specs.Parser.{pick, ◌>>=◌, ret, refuse, choose, follow}
use Rattle.wire.specs.Number.{number_of, number}
use Rattle.wire.specs.Lawful.{Waits}
use Rattle.wire.proofs.Step.{step, asking_done, asking_need, fixed_done, fixed_need}
use Rattle.strings.specs.Text.{ended_text, text_need, text, identified}
use Rattle.headertype.specs.Bits.{flag}
use Rattle.headertype.specs.HeaderType.{all_headers}
use Rattle.headertype.specs.declared.StandardHeader.{StandardHeader}
use Rattle.messageinfo.specs.declared.ExtendedHeader.{ExtendedHeader}
use Rattle.headers.specs.Standard.{maybe_id, maybe_number_of, header_of_lem, flagged, standard}
use Rattle.headers.specs.Extended.{extended_of_lem, named, extended}
use Rattle.protocol.specs.Fields.{Field, offset, big_endian_of}
use Rattle.agreement.specs.Agree.{htyp_of, len_of}
use Rattle.agreement.proofs.Headers.{big_number, one_byte}
use Rattle.std.specs.Prelude.{Some, None}

-- ---- a rule that takes w bytes at a position: it answers x once they are there, and waits until then
pub record Asks {A : Type 0} (p : Parser A) (s : List ℕ) (at w : ℕ) (x : Ans A) : Type 0 where
  pub there : w ≤ length s - at → p s at ≡ x
  pub short : length s - at < w → Waits (p s at)

-- what waits is a need
pub need_waits : {A : Type 0} {x : Ans A} {n : ℕ} → x ≡ need n → Waits x
need_waits e = rw e tt

pub waits_need : {A : Type 0} (x : Ans A) → Waits x → (n : ℕ) × (x ≡ need n)
waits_need (done a b) u = absurd u
waits_need (need n) u = (n, refl)
waits_need (hickup r) u = absurd u
waits_need broken u = absurd u

asks_number : (w : ℕ) (s : List ℕ) (at : ℕ) → Asks (number true w) s at w (done (big_endian_of w s at) (at + w))
unfolding number
asks_number w s at = record {
  there = λ h. fixed_done w (number_of true w) s at h ∙ ap (λ (v : ℕ). done v (at + w)) (big_number w s at);
  short = λ h. need_waits (fixed_need w (number_of true w) s at h);
}

asks_id : (s : List ℕ) (at : ℕ) → Asks identified s at 4 (done (ended_text 4 s at) (at + 4))
unfolding identified text
asks_id s at = record {
  there = λ h. asking_done 4 (text_need 4) _ s at h;
  short = λ h. need_waits (asking_need 4 (text_need 4) (λ s at. done (ended_text 4 s at) (at + 4)) s at h);
}

asks_ret : {A : Type 0} (a : A) (s : List ℕ) (at : ℕ) → Asks (ret a) s at 0 (done a at)
unfolding ret
asks_ret a s at = record { there = λ h. refl; short = λ h. absurd (omega arith) }

-- one rule after another
follow_waits : {A B : Type 0} (x : Ans A) (k : A → Parser B) (s : List ℕ) → Waits x → Waits (follow x k s)
follow_waits (done a b) k s u = absurd u
follow_waits (need n) k s u = u
follow_waits (hickup r) k s u = absurd u
follow_waits broken k s u = absurd u

waits_then : {A B : Type 0} (p : Parser A) (k : A → Parser B) (s : List ℕ) (at : ℕ) → Waits (p s at) → Waits ((p >>= k) s at)
unfolding ◌>>=◌
waits_then p k s at u = follow_waits (p s at) k s u

asks_then : {A B : Type 0} {a : A} {x : Ans B} (p : Parser A) (k : A → Parser B) (s : List ℕ) (at w v : ℕ)
    → Asks p s at w (done a (at + w)) → Asks (k a) s (at + w) v x → Asks (p >>= k) s at (w + v) x
asks_then {a = a} {x = x} p k s at w v f g = record {
  there = λ h. step p k s at (f.there (omega arith)) (g.there (omega arith));
  short = λ h. by (leb w (length s - at)) refl h;
}
  where
    by : (t : Bool) → leb w (length s - at) ≡ t → length s - at < w + v → Waits ((p >>= k) s at)
    by true e h =
        let l : w ≤ length s - at = leb-true _ _ e in
        subst Waits (sym (step p k s at (f.there l) refl)) (g.short (omega arith))
    by false e h = waits_then p k s at (f.short (leb-false _ _ e))

-- what is asked for if flagged
asks_maybe_id : (t : Bool) (s : List ℕ) (at : ℕ) → Asks (maybe_id t) s at (pick t 4 0) (done (pick t (Some (ended_text 4 s at)) None) (at + pick t 4 0))
unfolding maybe_id choose
asks_maybe_id true s at = asks_then identified (λ v. ret (Some v)) s at 4 0 (asks_id s at) (asks_ret (Some (ended_text 4 s at)) s (at + 4))
asks_maybe_id false s at = rw add-zero (asks_ret None s at)

asks_maybe_number : (t : Bool) (s : List ℕ) (at : ℕ) → Asks (maybe_number_of t) s at (pick t 4 0) (done (pick t (Some (big_endian_of 4 s at)) None) (at + pick t 4 0))
unfolding maybe_number_of choose
asks_maybe_number true s at = asks_then (number true 4) (λ v. ret (Some v)) s at 4 0 (asks_number 4 s at) (asks_ret (Some (big_endian_of 4 s at)) s (at + 4))
asks_maybe_number false s at = rw add-zero (asks_ret None s at)

-- the last test: the declared length against all headers
asks_choice : {A : Type 0} (t : Bool) (a : A) (r : ℕ) (s : List ℕ) (at : ℕ) → Asks (choose t (ret a) (refuse r)) s at 0 (pick t (done a at) (hickup r))
unfolding choose ret refuse
asks_choice t a r s at = record { there = λ h. refl; short = λ h. absurd (omega arith) }

-- ---- the two headers
module _ (s : List ℕ) (at : ℕ) where
  -- the standard header, of some header h: the protocol's widths are asked for, and its length is tested last
  pub record Told : Type 0 where
    pub header : StandardHeader
    pub next : ℕ
    pub asks : Asks standard s at (offset (htyp_of s at) Field.MSIN) (pick (leb (all_headers (htyp_of s at)) (len_of s at)) (done header next) (hickup 1))

  told_of : (t l : ℕ) (h : StandardHeader) (n : ℕ) → t ≡ htyp_of s at → l ≡ len_of s at
      → Asks standard s at (offset t Field.MSIN) (pick (leb (all_headers t) l) (done h n) (hickup 1)) → Told
  told_of t l h n p q a = record {
    header = h;
    next = n;
    asks =
        subst (λ (t : ℕ). Asks standard s at (offset t Field.MSIN) (pick (leb (all_headers t) (len_of s at)) (done h n) (hickup 1))) p
        (subst (λ (l : ℕ). Asks standard s at (offset t Field.MSIN) (pick (leb (all_headers t) l) (done h n) (hickup 1))) q a);
  }

  pub told : Told
  unfolding standard flagged
  told =
      let t = big_endian_of 1 s at in
      let a1 = at + 1 in
      let a2 = a1 + 1 in
      let a4 = a2 + 2 in
      let a5 = a4 + pick (flag 4 t) 4 0 in
      let a6 = a5 + pick (flag 8 t) 4 0 in
      let a7 = a6 + pick (flag 16 t) 4 0 in
      let l = big_endian_of 2 s a2 in
      let h = header_of_lem t (big_endian_of 1 s a1) l (pick (flag 4 t) (Some (ended_text 4 s a4)) None)
      (pick (flag 8 t) (Some (big_endian_of 4 s a5)) None) (pick (flag 16 t) (Some (big_endian_of 4 s a6)) None) in
      let e : a2 ≡ at + 2 = omega arith in
      told_of t l h a7 (one_byte s at) (ap (big_endian_of 2 s) e)
      (asks_then (number true 1) _ s at 1 _ (asks_number 1 s at)
      (asks_then (number true 1) _ s a1 1 _ (asks_number 1 s a1)
      (asks_then (number true 2) _ s a2 2 _ (asks_number 2 s a2)
      (asks_then (maybe_id (flag 4 t)) _ s a4 _ _ (asks_maybe_id (flag 4 t) s a4)
      (asks_then (maybe_number_of (flag 8 t)) _ s a5 _ _ (asks_maybe_number (flag 8 t) s a5)
      (asks_then (maybe_number_of (flag 16 t)) _ s a6 _ _ (asks_maybe_number (flag 16 t) s a6)
      (asks_choice (leb (all_headers t) l) h 1 s a7)))))))

  -- the extended header, of some header: ten bytes are asked for
  pub record ExtendedTold : Type 0 where
    pub header : ExtendedHeader
    pub asks : Asks extended s at 10 (done header (at + 10))

  pub extended_told : ExtendedTold
  unfolding extended named
  extended_told =
      let a1 = at + 1 in
      let a2 = a1 + 1 in
      let a6 = a2 + 4 in
      let a10 = a6 + 4 in
      let h = extended_of_lem (big_endian_of 1 s at) (big_endian_of 1 s a1) (ended_text 4 s a2) (ended_text 4 s a6) in
      let all : Asks extended s at 10 (done h a10) =
      asks_then (number true 1) _ s at 1 9 (asks_number 1 s at)
      (asks_then (number true 1) _ s a1 1 8 (asks_number 1 s a1)
      (asks_then identified _ s a2 4 4 (asks_id s a2)
      (asks_then identified _ s a6 4 0 (asks_id s a6)
      (asks_ret h s a10))))
      in
      let e : a10 ≡ at + 10 = omega arith in
      record { header = h; asks = subst (λ (n : ℕ). Asks extended s at 10 (done h n)) e all }
