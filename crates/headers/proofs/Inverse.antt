-- From a rule's value back to the values of its parts.
use Prim.Native.Nat.{ℕ, ◌+◌, ◌-◌, ◌≤◌}
use native.Mathlib.Omega.{arith}
use mathlib.Core.Path.{◌≡◌, refl, sym, ap, ◌∙◌, subst}
use mathlib.Core.Bool.{Bool, true, false}
use mathlib.Core.List.{List}
use lib.ListN.{length}
use lib.Dec.{leb}
use Rattle.wire.specs.Answer.{Ans, Parser}
use Rattle.wire.specs.Answer.Ans.{done, need, hickup, broken}
use Rattle.wire.specs.Parser.{pick, follow, ◌>>=◌, ret, refuse, choose, asking, having, fixed, lacking}
use Rattle.wire.specs.Number.{number_of, number}
use Rattle.wire.specs.Run.{range, bytes}
use Rattle.wire.specs.declared.Range.{Range}
use Rattle.wire.specs.declared.Text.{Text}
use Rattle.strings.specs.Text.{text_of, text_need, ended_text, text, identified}
use Rattle.strings.proofs.Strings.{text_within, identified_law}
use Rattle.wire.specs.Lawful.{Lawful}
use Rattle.wire.proofs.Step.{ends}
use Rattle.wire.proofs.Digits.{number_law}
use Rattle.headertype.specs.Bits.{flag}
use Rattle.headertype.specs.HeaderType.{all_headers}
use Rattle.headertype.specs.declared.StandardHeader.{StandardHeader}
use Rattle.messageinfo.specs.declared.ExtendedHeader.{ExtendedHeader}
use Rattle.headers.specs.Standard.{maybe_id, maybe_number_of, header_of_lem, flagged, standard}
use Rattle.headers.specs.Extended.{extended_of_lem, named, extended}
use Rattle.std.specs.Prelude.{Option, Some, None}

-- two answers that are one
module _ {A : Type 0} {a : A} {n : ℕ} where
  pub same_value : {b : A} {m : ℕ} → done b m ≡ done a n → (a ≡ b) × (n ≡ m)
  same_value e = (cc, cc)

  pub no_need : {X : Type 0} {m : ℕ} → need m ≡ done a n → X
  no_need e = let z : ◌≡◌ {A = ℕ} 0 1 = cc in absurd (omega arith)

  pub no_hickup : {X : Type 0} {m : ℕ} → hickup m ≡ done a n → X
  no_hickup e = let z : ◌≡◌ {A = ℕ} 0 1 = cc in absurd (omega arith)

  pub no_broken : {X : Type 0} → broken ≡ done a n → X
  no_broken e = let z : ◌≡◌ {A = ℕ} 0 1 = cc in absurd (omega arith)

-- one rule after another
pub record Split {A B : Type 0} (p : Parser A) (k : A → Parser B) (s : List ℕ) (at : ℕ) (b : B) (n : ℕ) : Type 0 where
  pub value : A
  pub mid : ℕ
  pub first : p s at ≡ done value mid
  pub second : k value s mid ≡ done b n

pub split : {A B : Type 0} {b : B} {n : ℕ} (p : Parser A) (k : A → Parser B) (s : List ℕ) (at : ℕ) → (p >>= k) s at ≡ done b n → Split p k s at b n
unfolding ◌>>=◌
split {A} {B} {b} {n} p k s at e = by (p s at) refl e
  where
    by : (x : Ans A) → p s at ≡ x → follow x k s ≡ done b n → Split p k s at b n
    by (done a m) q f = record { value = a; mid = m; first = q; second = f }
    by (need m) q f = no_need f
    by (hickup r) q f = no_hickup f
    by broken q f = no_broken f

module _ {A : Type 0} (s : List ℕ) (at : ℕ) where
  pub of_ret : {a : A} {n : ℕ} (b : A) → ret b s at ≡ done a n → (a ≡ b) × (n ≡ at)
  unfolding ret
  of_ret b e = same_value e

  pub of_refuse : {X : Type 0} {a : A} {n : ℕ} (r : ℕ) → refuse {A = A} r s at ≡ done a n → X
  unfolding refuse
  of_refuse r e = no_hickup e

  of_asking : {a : A} {n : ℕ} (w : ℕ) (m : List ℕ → ℕ → ℕ) (f : List ℕ → ℕ → A) → asking w m (λ s at. done (f s at) (at + w)) s at ≡ done a n → (a ≡ f s at) × (n ≡ at + w)
  unfolding asking
  of_asking {a} {n} w m f e = by (leb w (length s - at)) e
    where
      by : (t : Bool) → pick t (done (f s at) (at + w)) (need (m s at)) ≡ done a n → (a ≡ f s at) × (n ≡ at + w)
      by true g = same_value g
      by false g = no_need g

-- a number of w bytes
pub of_number : {v n : ℕ} (big : Bool) (w : ℕ) (s : List ℕ) (at : ℕ) → number big w s at ≡ done v n → (v ≡ number_of big w s at) × (n ≡ at + w)
unfolding number fixed having
of_number big w s at e = of_asking s at w (lacking w) (number_of big w) e

pub of_bytes : {v : Range} {n : ℕ} (w : ℕ) (s : List ℕ) (at : ℕ) → bytes w s at ≡ done v n → (v ≡ range at w) × (n ≡ at + w)
unfolding bytes fixed having
of_bytes w s at e = of_asking s at w (lacking w) (λ s at. range at w) e

pub of_id : {v : Text} {n : ℕ} (s : List ℕ) (at : ℕ) → identified s at ≡ done v n → (v ≡ ended_text 4 s at) × (n ≡ at + 4)
unfolding identified text
of_id s at e = of_asking s at 4 (text_need 4) (ended_text 4) e

-- what is read if flagged
pub of_maybe_id : {o : Option Text} {n : ℕ} (t : Bool) (s : List ℕ) (at : ℕ) → maybe_id t s at ≡ done o n
    → (o ≡ pick t (Some (ended_text 4 s at)) None) × (n ≡ at + pick t 4 0)
unfolding maybe_id choose
of_maybe_id true s at e =
    let r = split identified (λ v. ret (Some v)) s at e in
    let i = of_id s at r.first in
    let o = of_ret s r.mid (Some r.value) r.second in
    (o.0 ∙ ap Some i.0, o.1 ∙ i.1)
of_maybe_id false s at e = let o = of_ret s at None e in (o.0, omega (arith, o.1))

pub of_maybe_number : {o : Option ℕ} {n : ℕ} (t : Bool) (s : List ℕ) (at : ℕ) → maybe_number_of t s at ≡ done o n
    → (o ≡ pick t (Some (number_of true 4 s at)) None) × (n ≡ at + pick t 4 0)
unfolding maybe_number_of choose
of_maybe_number true s at e =
    let r = split (number true 4) (λ v. ret (Some v)) s at e in
    let i = of_number true 4 s at r.first in
    let o = of_ret s r.mid (Some r.value) r.second in
    (o.0 ∙ ap Some i.0, o.1 ∙ i.1)
of_maybe_number false s at e = let o = of_ret s at None e in (o.0, omega (arith, o.1))

-- ---- the identifiers that the headers hold stand within the bytes
abbrev pub Inside : List ℕ → Range → Type 0
Inside s r = r.start + r.len ≤ length s

pub id_inside : {v : Text} {n : ℕ} (s : List ℕ) (at : ℕ) → n ≤ length s → identified s at ≡ done v n → Inside s v.place
unfolding text_of ended_text
id_inside s at h e =
    let i = of_id s at e in
    let w : (text_of 4 s at).len ≤ 4 = text_within 4 s at in
    rw i.0 (omega (arith, i.1, w))

ends_at : {A : Type 0} (p : Parser A) → Lawful p → (s : List ℕ) (at : ℕ) {a : A} {b : ℕ} → at ≤ length s → p s at ≡ done a b → b ≤ length s
ends_at p l s at h e = (ends {p = p} s at l h e).1

maybe_inside : (t : Bool) (o : Option Text) (n : ℕ) (s : List ℕ) (at : ℕ) → at ≤ length s → maybe_id t s at ≡ done o n → (r : Text) → o ≡ Some r → Inside s r.place
unfolding maybe_id choose
maybe_inside true o n s at h e r z =
    let p = split identified (λ v. ret (Some v)) s at e in
    let q = of_ret s p.mid (Some p.value) p.second in
    let l = ends_at identified identified_law s at h p.first in
    let x : Some p.value ≡ Some r = sym q.0 ∙ z in
    let y : p.value ≡ r = cc in
    subst (λ (x : Text). Inside s x.place) y (id_inside s at l p.first)
maybe_inside false o n s at h e r z =
    let q = of_ret s at None e in
    let x : None ≡ Some r = sym q.0 ∙ z in
    let y : ◌≡◌ {A = ℕ} 0 1 = cc in
    absurd (omega arith)

flagged_inside : (type counter long : ℕ) (h : StandardHeader) (n : ℕ) (s : List ℕ) (at : ℕ) → at ≤ length s → flagged type counter long s at ≡ done h n
    → (r : Text) → h.ecu_id ≡ Some r → Inside s r.place
unfolding flagged choose header_of_lem
flagged_inside type counter long h n s at l e r z =
    let r1 = split (maybe_id (flag 4 type)) _ s at e in
    let r2 = split (maybe_number_of (flag 8 type)) _ s r1.mid r1.second in
    let r3 = split (maybe_number_of (flag 16 type)) _ s r2.mid r2.second in
    by r1.value r2.value r3.value r3.mid (leb (all_headers type) long) r3.second (maybe_inside (flag 4 type) r1.value r1.mid s at l r1.first r)
  where
    by : (ecu : Option Text) (session time : Option ℕ) (k : ℕ) (b : Bool) → pick b (ret (header_of_lem type counter long ecu session time) s k) (refuse 1 s k) ≡ done h n
        → (ecu ≡ Some r → Inside s r.place) → Inside s r.place
    by ecu session time k true g f =
        let o = of_ret s k (header_of_lem type counter long ecu session time) g in
        f (sym (ap (λ (x : StandardHeader). x.ecu_id) o.0) ∙ z)
    by ecu session time k false g f = of_refuse s k 1 g

pub ecu_inside : (h : StandardHeader) (n : ℕ) (s : List ℕ) (at : ℕ) → at ≤ length s → standard s at ≡ done h n → (r : Text) → h.ecu_id ≡ Some r → Inside s r.place
unfolding standard
ecu_inside h n s at l e r z =
    let r1 = split (number true 1) _ s at e in
    let r2 = split (number true 1) _ s r1.mid r1.second in
    let r3 = split (number true 2) _ s r2.mid r2.second in
    let l1 = ends_at (number true 1) (number_law true 1) s at l r1.first in
    let l2 = ends_at (number true 1) (number_law true 1) s r1.mid l1 r2.first in
    let l3 = ends_at (number true 2) (number_law true 2) s r2.mid l2 r3.first in
    flagged_inside r1.value r2.value r3.value h n s r3.mid l3 r3.second r z

named_inside : (info count : ℕ) (x : ExtendedHeader) (n : ℕ) (s : List ℕ) (at : ℕ) → at ≤ length s → named info count s at ≡ done x n → Inside s x.application_id.place × Inside s x.context_id.place
unfolding named extended_of_lem
named_inside info count x n s at l e =
    let r1 = split identified _ s at e in
    let l1 = ends_at identified identified_law s at l r1.first in
    let r2 = split identified _ s r1.mid r1.second in
    let l2 = ends_at identified identified_law s r1.mid l1 r2.first in
    let o = of_ret s r2.mid (extended_of_lem info count r1.value r2.value) r2.second in
    rw o.0 (id_inside s at l1 r1.first, id_inside s r1.mid l2 r2.first)

pub ids_inside : (x : ExtendedHeader) (n : ℕ) (s : List ℕ) (at : ℕ) → at ≤ length s → extended s at ≡ done x n → Inside s x.application_id.place × Inside s x.context_id.place
unfolding extended
ids_inside x n s at l e =
    let r1 = split (number true 1) _ s at e in
    let l1 = ends_at (number true 1) (number_law true 1) s at l r1.first in
    let r2 = split (number true 1) _ s r1.mid r1.second in
    let l2 = ends_at (number true 1) (number_law true 1) s r1.mid l1 r2.first in
    named_inside r1.value r2.value x n s r2.mid l2 r2.second
