-- Each header field that is read is the protocol's field of the same bytes. (Of the bytes only HTYP is asked to be one: a number below 256.)
use Prim.Native.Nat.{ℕ, zero, suc, ◌+◌, ◌*◌, ◌<◌}
use native.Mathlib.Omega.{arith}
use native.Mathlib.Nat.{add-zero}
use mathlib.Core.Path.{◌≡◌, refl, sym, ap, ap₂, ◌∙◌, subst}
use mathlib.Core.Bool.{Bool, true, false}
use mathlib.Core.List.{List}
use lib.ListN.{length, get_or}
use lib.Dec.{leb}
use Rattle.wire.specs.Answer.Ans.{done}
use Rattle.wire.specs.Parser.{pick, ret, refuse, choose}
use Rattle.wire.specs.Number.{digits, number_of, number}
use Rattle.strings.specs.Text.{text_of, ended_text, identified}
use Rattle.headertype.specs.Bits.{flag}
use Rattle.headertype.specs.HeaderType.{all_headers}
use Rattle.headertype.specs.declared.StandardHeader.{StandardHeader}
use Rattle.messageinfo.specs.declared.ExtendedHeader.{ExtendedHeader}
use Rattle.headers.specs.Standard.{maybe_id, maybe_number_of, endian_of, header_of_lem, flagged, standard}
use Rattle.headers.specs.Extended.{extended_of_lem, named, extended}
use Rattle.protocol.specs.Fields.{UEH, WEID, WSID, WTMS, Field, width, offset, headers, big_endian_of}
use Rattle.protocol.specs.Msin.{VERB}
use Rattle.protocol.proofs.Lengths.{headers_length}
use Rattle.protocol.proofs.Names.{type_read, subtype_read}
use Rattle.agreement.specs.Agree.{htyp_of, IdField, MaybeIdField, StandardAgrees, ExtendedAgrees}
use Rattle.agreement.proofs.Text.{text_identifier, text_ended, text_inside}
use Rattle.headers.proofs.Inverse as inverse
use Rattle.headers.proofs.Inverse.{split, of_ret, of_refuse, of_id, of_maybe_id}
use Rattle.std.specs.Prelude.{Option, Some, None}
use Rattle.wire.specs.declared.Text.{Text}

-- the number of w bytes, as the protocol has it
pub big_number : (w : ℕ) (s : List ℕ) (at : ℕ) → number_of true w s at ≡ big_endian_of w s at
unfolding number_of
big_number w s at = digits_big w w s at
  where
    digits_big : (w n : ℕ) (s : List ℕ) (at : ℕ) → digits true w s at n ≡ big_endian_of n s at
    digits_big w zero s at = refl
    digits_big w (suc n) s at = ap (λ (d : ℕ). d * 256 + get_or s (at + n) 0) (digits_big w n s at)

of_number : {v n : ℕ} (w : ℕ) (s : List ℕ) (at : ℕ) → number true w s at ≡ done v n → (v ≡ big_endian_of w s at) × (n ≡ at + w)
of_number w s at e = let r = inverse.of_number true w s at e in (r.0 ∙ big_number w s at, r.1)

of_maybe_number : {o : Option ℕ} {n : ℕ} (t : Bool) (s : List ℕ) (at : ℕ) → maybe_number_of t s at ≡ done o n
    → (o ≡ pick t (Some (big_endian_of 4 s at)) None) × (n ≡ at + pick t 4 0)
of_maybe_number t s at e =
    let r = inverse.of_maybe_number t s at e in
    (r.0 ∙ ap (λ (v : ℕ). pick t (Some v) None) (big_number 4 s at), r.1)

pub one_byte : (s : List ℕ) (at : ℕ) → big_endian_of 1 s at ≡ get_or s at 0
one_byte s at = rw add-zero (omega arith)

-- the text of a field's four bytes is its identifier, and ended as that one ends
id_field : (f : Field) (s : List ℕ) (at : ℕ) → width f ≡ 4 → IdField f s at (ended_text 4 s (at + offset (htyp_of s at) f))
unfolding ended_text text_of
id_field f s at w =
    let place = at + offset (htyp_of s at) f in
    record { starts = refl; inside = text_inside 4 s place; bytes = rw w (text_identifier 4 s place); why = rw w (text_ended 4 s place) }

maybe_id_field : (s : List ℕ) (at : ℕ) (t : Bool) → WEID (htyp_of s at) ≡ t → MaybeIdField Field.ECU s at (pick t (Some (ended_text 4 s (at + 4))) None)
maybe_id_field s at true e = (e, id_field Field.ECU s at refl)
maybe_id_field s at false e = e

-- the fields in a row, each behind those before it that are there
module _ (s : List ℕ) (at : ℕ) (byte : htyp_of s at < 256) where
  -- how many bytes the flagged fields before the session id, the timestamp and the extended header have
  abbrev b1 : ℕ
  b1 = pick (flag 4 (htyp_of s at)) 4 0

  abbrev b2 : ℕ
  b2 = b1 + pick (flag 8 (htyp_of s at)) 4 0

  abbrev b3 : ℕ
  b3 = b2 + pick (flag 16 (htyp_of s at)) 4 0

  made : (type counter length : ℕ) (ecu : Option Text) (session time : Option ℕ) (next : ℕ) → type ≡ htyp_of s at → counter ≡ big_endian_of 1 s (at + 1) → length ≡ big_endian_of 2 s (at + 2)
      → ecu ≡ pick (flag 4 (htyp_of s at)) (Some (ended_text 4 s (at + 4))) None
      → session ≡ pick (flag 8 (htyp_of s at)) (Some (big_endian_of 4 s (at + 4 + b1))) None
      → time ≡ pick (flag 16 (htyp_of s at)) (Some (big_endian_of 4 s (at + 4 + b2))) None
      → next ≡ at + 4 + b3
      → StandardAgrees s at (header_of_lem type counter length ecu session time) next
  unfolding header_of_lem endian_of
  made type counter length ecu session time next t c l e n m z =
      let p : at + 4 + b1 ≡ at + offset (htyp_of s at) Field.SEID = omega arith in
      let q : at + 4 + b2 ≡ at + offset (htyp_of s at) Field.TMSP = omega arith in
      record {
        vers = rw t (omega arith);
        msbf = rw t;
        ueh = rw t;
        mcnt = c;
        len = rw (t, l, headers_length (htyp_of s at) byte);
        ecu = subst (MaybeIdField Field.ECU s at) (sym e) (maybe_id_field s at (WEID (htyp_of s at)) refl);
        seid = n ∙ ap (λ (k : ℕ). pick (WSID (htyp_of s at)) (Some (big_endian_of 4 s k)) None) p;
        tmsp = m ∙ ap (λ (k : ℕ). pick (WTMS (htyp_of s at)) (Some (big_endian_of 4 s k)) None) q;
        ends = z ∙ omega arith;
      }

  -- what is flagged, behind the first four bytes
  flags : (type counter length : ℕ) (h : StandardHeader) (n mid : ℕ) → type ≡ htyp_of s at → counter ≡ big_endian_of 1 s (at + 1) → length ≡ big_endian_of 2 s (at + 2) → mid ≡ at + 4
      → flagged type counter length s mid ≡ done h n → StandardAgrees s at h n
  unfolding flagged choose
  flags type counter length h n mid t c l m e =
      let r1 = split (maybe_id (flag 4 type)) _ s mid e in
      let i1 = of_maybe_id (flag 4 type) s mid r1.first in
      let r2 = split (maybe_number_of (flag 8 type)) _ s r1.mid r1.second in
      let i2 = of_maybe_number (flag 8 type) s r1.mid r2.first in
      let r3 = split (maybe_number_of (flag 16 type)) _ s r2.mid r2.second in
      let i3 = of_maybe_number (flag 16 type) s r2.mid r3.first in
      let m1 : r1.mid ≡ at + 4 + b1 = i1.1 ∙ ap₂ (λ (k y : ℕ). k + pick (flag 4 y) 4 0) m t in
      let m2 : r2.mid ≡ at + 4 + b2 = i2.1 ∙ ap₂ (λ (k y : ℕ). k + pick (flag 8 y) 4 0) m1 t ∙ omega arith in
      let m3 : r3.mid ≡ at + 4 + b3 = i3.1 ∙ ap₂ (λ (k y : ℕ). k + pick (flag 16 y) 4 0) m2 t ∙ omega arith in
      let f1 : r1.value ≡ pick (flag 4 (htyp_of s at)) (Some (ended_text 4 s (at + 4))) None
      = i1.0 ∙ ap₂ (λ (k y : ℕ). pick (flag 4 y) (Some (ended_text 4 s k)) None) m t in
      let f2 : r2.value ≡ pick (flag 8 (htyp_of s at)) (Some (big_endian_of 4 s (at + 4 + b1))) None
      = i2.0 ∙ ap₂ (λ (k y : ℕ). pick (flag 8 y) (Some (big_endian_of 4 s k)) None) m1 t in
      let f3 : r3.value ≡ pick (flag 16 (htyp_of s at)) (Some (big_endian_of 4 s (at + 4 + b2))) None
      = i3.0 ∙ ap₂ (λ (k y : ℕ). pick (flag 16 y) (Some (big_endian_of 4 s k)) None) m2 t in
      by r1.value r2.value r3.value r3.mid f1 f2 f3 m3 (leb (all_headers type) length) r3.second
    where
      by : (ecu : Option Text) (session time : Option ℕ) (k : ℕ)
          → ecu ≡ pick (flag 4 (htyp_of s at)) (Some (ended_text 4 s (at + 4))) None
          → session ≡ pick (flag 8 (htyp_of s at)) (Some (big_endian_of 4 s (at + 4 + b1))) None
          → time ≡ pick (flag 16 (htyp_of s at)) (Some (big_endian_of 4 s (at + 4 + b2))) None
          → k ≡ at + 4 + b3 → (b : Bool)
          → pick b (ret (header_of_lem type counter length ecu session time) s k) (refuse 1 s k) ≡ done h n → StandardAgrees s at h n
      by ecu session time k f1 f2 f3 z true g =
          let o = of_ret s k (header_of_lem type counter length ecu session time) g in
          rw o.0 (made type counter length ecu session time n t c l f1 f2 f3 (o.1 ∙ z))
      by ecu session time k f1 f2 f3 z false g = of_refuse s k 1 g

  pub standard_agrees : (h : StandardHeader) (n : ℕ) → standard s at ≡ done h n → StandardAgrees s at h n
  unfolding standard
  standard_agrees h n e =
      let r1 = split (number true 1) _ s at e in
      let i1 = of_number 1 s at r1.first in
      let r2 = split (number true 1) _ s r1.mid r1.second in
      let i2 = of_number 1 s r1.mid r2.first in
      let r3 = split (number true 2) _ s r2.mid r2.second in
      let i3 = of_number 2 s r2.mid r3.first in
      let m1 : r1.mid ≡ at + 1 = i1.1 in
      let m2 : r2.mid ≡ at + 2 = i2.1 ∙ ap (λ (k : ℕ). k + 1) m1 ∙ omega arith in
      let m3 : r3.mid ≡ at + 4 = i3.1 ∙ ap (λ (k : ℕ). k + 2) m2 ∙ omega arith in
      flags r1.value r2.value r3.value h n r3.mid (i1.0 ∙ one_byte s at) (i2.0 ∙ ap (big_endian_of 1 s) m1) (i3.0 ∙ ap (big_endian_of 2 s) m2) m3 r3.second

  -- the extended header, where HTYP says that there is one and the standard header ends
  pub extended_agrees : UEH (htyp_of s at) ≡ true → (x : ExtendedHeader) (n : ℕ) → extended s (at + offset (htyp_of s at) Field.MSIN) ≡ done x n → ExtendedAgrees s at x n
  unfolding extended named extended_of_lem
  extended_agrees u x n e =
      let start = at + offset (htyp_of s at) Field.MSIN in
      let r1 = split (number true 1) _ s start e in
      let i1 = of_number 1 s start r1.first in
      let r2 = split (number true 1) _ s r1.mid r1.second in
      let i2 = of_number 1 s r1.mid r2.first in
      let r3 = split identified _ s r2.mid r2.second in
      let i3 = of_id s r2.mid r3.first in
      let r4 = split identified _ s r3.mid r3.second in
      let i4 = of_id s r3.mid r4.first in
      let o = of_ret s r4.mid (extended_of_lem r1.value r2.value r3.value r4.value) r4.second in
      let w : ◌≡◌ {A = ℕ} (pick (UEH (htyp_of s at)) 1 0) 1 = rw u in
      let v : ◌≡◌ {A = ℕ} (pick (UEH (htyp_of s at)) 4 0) 4 = rw u in
      let m1 : r1.mid ≡ at + offset (htyp_of s at) Field.NOAR = i1.1 ∙ omega arith in
      let m2 : r2.mid ≡ at + offset (htyp_of s at) Field.APID = i2.1 ∙ ap (λ (k : ℕ). k + 1) m1 ∙ omega arith in
      let m3 : r3.mid ≡ at + offset (htyp_of s at) Field.CTID = i3.1 ∙ ap (λ (k : ℕ). k + 4) m2 ∙ omega arith in
      let m4 : r4.mid ≡ at + headers (htyp_of s at) = i4.1 ∙ ap (λ (k : ℕ). k + 4) m3 ∙ omega arith in
      rw o.0 (record {
        verb = ap VERB i1.0;
        msin = rw i1.0;
        mstp = λ b. rw i1.0 (type_read _ b);
        mtin = λ b. rw i1.0 (subtype_read _ b);
        noar = i2.0 ∙ ap (big_endian_of 1 s) m1;
        apid = subst (IdField Field.APID s at) (sym (i3.0 ∙ ap (ended_text 4 s) m2)) (id_field Field.APID s at refl);
        ctid = subst (IdField Field.CTID s at) (sym (i4.0 ∙ ap (ended_text 4 s) m3)) (id_field Field.CTID s at refl);
        ends = o.1 ∙ m4;
      })
