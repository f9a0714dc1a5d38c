-- The type info words that the crate and the protocol both have, with one meaning; that the crate alone accepts; that the protocol alone has. Each set is
-- exact, by a test that computes at every number of bits 4 to 10, every length, and the fixed-point, trace-info and struct bits.
-- Assumes nothing.
use Prim.Native.Nat.{ℕ, ◌/◌, ◌%◌, ◌<◌}
use native.Mathlib.Omega.{arith}
use mathlib.Core.Path.{◌≡◌, refl, sym, ap, subst, ◌∙◌}
use mathlib.Core.Bool.{Bool, true, false}
use lib.Dec.{eqb}
use borrow.Author.Tests.{eqb-true}
use Rattle.wire.specs.Parser.{pick}
use Rattle.headertype.specs.Bits.{flag, no, both, either}
use Rattle.headertype.proofs.Every.{every, both_left, both_right, same, same_is, every_two}
use Rattle.dlt.specs.TypeInfoWord.{type_length_of, float_width_of, signed_of, unsigned_of, float_of, kind_by, kind_of, coding_of_lem, decoded_of, type_info_of_lem}
use Rattle.dlt.specs.Accepted.{accepted}
use Rattle.dlt.specs.Kept.{coding_number_of}
use Rattle.dlt.specs.declared.TypeInfo.{TypeInfo}
use Rattle.std.specs.Prelude.{Result, Ok, Err, Option, Some, None}
use Rattle.dlt.specs.declared.NoTypeInfo.{NoTypeInfo}
use Rattle.dlt.proofs.Exactly.{bit4, bit5, bit6, bit7, bit8, bit9, bit10, known, decoded_known, exactly}
use Rattle.dlt.proofs.Kept.{coding_kept}
use Rattle.protocol.specs.TypeInfo.{Word, fields_of, typed, tidy, has, type_of, width_of, Meaning, meaning_of}
use Rattle.protocol.specs.Sets.{both_have, crate_alone, protocol_alone, six_of_both, loose_type, loose, unread, kind_type, kind_width, kind_fixed, told}
use Rattle.dlt.specs.declared.TypeInfoKind.{TypeInfoKind}

-- ---- a word by the number k of bits 4 to 10, its length l, the bits f, t and s of FIXP, TRAI and STRU, and the rest
abbrev built : ℕ → ℕ → Bool → Bool → Bool → Bool → ℕ → ℕ → Word
built k l f t s v c u = record {
  TYLE = l;
  BOOL = eqb (k % 2) 1;
  SINT = eqb (k / 2 % 2) 1;
  UINT = eqb (k / 4 % 2) 1;
  FLOA = eqb (k / 8 % 2) 1;
  ARAY = eqb (k / 16 % 2) 1;
  STRG = eqb (k / 32 % 2) 1;
  RAWD = eqb (k / 64 % 2) 1;
  VARI = v;
  FIXP = f;
  TRAI = t;
  STRU = s;
  SCOD = c;
  UNUSED = u;
}

fields_of_lem : (w : ℕ)
    → fields_of w ≡ built (w / 16 % 128) (w % 16) (flag 4096 w) (flag 8192 w) (flag 16384 w) (flag 2048 w) (w / 32768 % 8) (w / 262144)
fields_of_lem w = rw (bit4 w, bit5 w, bit6 w, bit7 w, bit8 w, bit9 w, bit10 w)

-- ---- a test of a word i: a is whether the crate accepts it, o its kind
abbrev Test : Type 0
Test = Bool → Word → Option TypeInfoKind → Bool

abbrev each : (Bool → Bool) → Bool
each q = both (q true) (q false)

each_at : (q : Bool → Bool) → each q ≡ true → (b : Bool) → q b ≡ true
each_at q e true = both_left (q true) (q false) e
each_at q e false = both_right (q true) (q false) e

module _ (p : Test) (v : Bool) (c u : ℕ) where
  abbrev tried_at : Bool → Bool → Bool → ℕ → ℕ → Bool
  tried_at f t s k l = p (known (kind_by k l f)) (built k l f t s v c u) (kind_by k l f)

  abbrev tried_by : Bool → Bool → Bool → Bool
  tried_by f t s = every (λ k. every (tried_at f t s k) 16) 128

  -- tried at all words with the rest v, c and u
  abbrev tried : Bool
  tried = each (λ f. each (λ t. each (tried_by f t)))

  by_kind : tried ≡ true → (f t s : Bool) (k l : ℕ) → k < 128 → l < 16 → tried_at f t s k l ≡ true
  by_kind e f t s =
      every_two (tried_at f t s) 128 16
      (each_at (tried_by f t) (each_at (λ t. each (tried_by f t)) (each_at (λ f. each (λ t. each (tried_by f t))) e f) t) s)

-- a test that every rest passes holds of every word
of_word : (p : Test) → ((v : Bool) (c u : ℕ) → tried p v c u ≡ true) → (w : ℕ) → p (known (kind_of w)) (fields_of w) (kind_of w) ≡ true
of_word p e w =
    let v = flag 2048 w in
    let c = w / 32768 % 8 in
    let u = w / 262144 in
    subst (λ (i : Word). p (known (kind_of w)) i (kind_of w) ≡ true) (sym (fields_of_lem w))
    (by_kind p v c u (e v c u) (flag 4096 w) (flag 8192 w) (flag 16384 w) (w / 16 % 128) (w % 16) (omega arith) (omega arith))

-- ---- the three sets without the coding and the reserved bits, and the meaning
shared_set : Test
shared_set a i o = same (both a (typed i)) (six_of_both i)

crate_set : Test
crate_set a i o = same (both a (no (typed i))) (both a (loose_type i))

protocol_set : Test
protocol_set a i o = same (both (typed i) (no a)) (both (typed i) (unread i))

kind_means : Word → Option TypeInfoKind → Bool
kind_means i (Some k) = both (eqb (kind_type k) (type_of i)) (both (eqb (kind_width k) (width_of i)) (same (kind_fixed k) i.FIXP))
kind_means i None = true

meant : Test
meant a i o = pick (six_of_both i) (kind_means i o) true

module _ (v : Bool) (c u : ℕ) where
  shared_tried : tried shared_set v c u ≡ true
  unfolding shared_set kind_by signed_of unsigned_of float_of type_length_of float_width_of
  shared_tried = refl

  crate_tried : tried crate_set v c u ≡ true
  unfolding crate_set kind_by signed_of unsigned_of float_of type_length_of float_width_of
  crate_tried = refl

  protocol_tried : tried protocol_set v c u ≡ true
  unfolding protocol_set kind_by signed_of unsigned_of float_of type_length_of float_width_of
  protocol_tried = refl

  meant_tried : tried meant v c u ≡ true
  unfolding meant kind_means kind_by signed_of unsigned_of float_of type_length_of float_width_of
  meant_tried = refl

picked : (t a : Bool) → pick t a true ≡ true → t ≡ true → a ≡ true
picked true a e q = e
picked false a e q = let z : ◌≡◌ {A = ℕ} 0 1 = cc in absurd (omega arith)

-- ---- what the tests show, of any word
module _ (w : ℕ) where
  abbrev answer : Bool
  answer = known (kind_of w)

  shared_is : both answer (typed (fields_of w)) ≡ six_of_both (fields_of w)
  unfolding shared_set
  shared_is = same_is _ _ (of_word shared_set shared_tried w)

  crate_is : both answer (no (typed (fields_of w))) ≡ both answer (loose_type (fields_of w))
  unfolding crate_set
  crate_is = same_is _ _ (of_word crate_set crate_tried w)

  protocol_is : both (typed (fields_of w)) (no answer) ≡ both (typed (fields_of w)) (unread (fields_of w))
  unfolding protocol_set
  protocol_is = same_is _ _ (of_word protocol_set protocol_tried w)

  meant_is : six_of_both (fields_of w) ≡ true → kind_means (fields_of w) (kind_of w) ≡ true
  unfolding meant
  meant_is = picked _ _ (of_word meant meant_tried w)

-- ---- the coding and the reserved bits beside them, as one bool
tidy_both : (a h b t : Bool) → both a h ≡ b → both a (both h t) ≡ both b t
tidy_both true h b t e = rw e
tidy_both false h b t e = rw (sym e)

tidy_loose : (a h o t : Bool) → both a (no h) ≡ both a o → both a (no (both h t)) ≡ both a (either o (no t))
tidy_loose true true o t e = rw (sym e)
tidy_loose true false o t e = rw (sym e)
tidy_loose false h o t e = refl

tidy_unread : (a h u t : Bool) → both h (no a) ≡ both h u → both (both h t) (no a) ≡ both (both h t) u
tidy_unread a true u true e = e
tidy_unread a true u false e = refl
tidy_unread a false u t e = refl

-- ---- the theorems
module _ (w : ℕ) where
  is_known : accepted (type_info_of_lem w) ≡ known (kind_of w)
  unfolding type_info_of_lem
  is_known = decoded_known w (kind_of w)

  -- the words of both
  pub in_both : both (accepted (type_info_of_lem w)) (has (fields_of w)) ≡ both_have w
  in_both =
      ap (λ (a : Bool). both a (has (fields_of w))) is_known
      ∙ tidy_both (answer w) (typed (fields_of w)) (six_of_both (fields_of w)) (tidy (fields_of w)) (shared_is w)

  -- the words of the crate alone
  pub crate_alone_lem : both (accepted (type_info_of_lem w)) (no (has (fields_of w))) ≡ crate_alone w
  crate_alone_lem =
      ap (λ (a : Bool). both a (no (has (fields_of w)))) is_known
      ∙ tidy_loose (answer w) (typed (fields_of w)) (loose_type (fields_of w)) (tidy (fields_of w)) (crate_is w)
      ∙ ap (λ (a : Bool). both a (loose (fields_of w))) (sym is_known ∙ exactly w)

  -- the words of the protocol alone
  pub protocol_alone_lem : both (has (fields_of w)) (no (accepted (type_info_of_lem w))) ≡ protocol_alone w
  protocol_alone_lem =
      ap (λ (a : Bool). both (has (fields_of w)) (no a)) is_known
      ∙ tidy_unread (answer w) (typed (fields_of w)) (unread (fields_of w)) (tidy (fields_of w)) (protocol_is w)

-- ---- a word of both has one meaning
abbrev told_of_lem : Meaning → Result TypeInfo NoTypeInfo → Meaning
told_of_lem m (Ok i) = told i
told_of_lem m (Err r) = m

told_kind : (w : ℕ) (o : Option TypeInfoKind) → kind_means (fields_of w) o ≡ true → told_of_lem (meaning_of (fields_of w)) (decoded_of w o) ≡ meaning_of (fields_of w)
unfolding kind_means
told_kind w (Some k) e =
    let i = fields_of w in
    let type-test = eqb (kind_type k) (type_of i) in
    let width-test = eqb (kind_width k) (width_of i) in
    let fixed-test = same (kind_fixed k) i.FIXP in
    let others : both width-test fixed-test ≡ true = both_right type-test (both width-test fixed-test) e in
    let type : kind_type k ≡ type_of i = eqb-true _ _ (both_left type-test (both width-test fixed-test) e) in
    let width : kind_width k ≡ width_of i = eqb-true _ _ (both_left width-test fixed-test others) in
    let fixed : kind_fixed k ≡ i.FIXP = same_is (kind_fixed k) i.FIXP (both_right width-test fixed-test others) in
    let coding : coding_number_of (coding_of_lem (w / 32768 % 8)) ≡ w / 32768 % 8 = coding_kept _ (omega arith) in
    rw (type, width, fixed, coding)
told_kind w None e = refl

pub one_meaning : (w : ℕ) (i : TypeInfo) → type_info_of_lem w ≡ Ok i → both_have w ≡ true → told i ≡ meaning_of (fields_of w)
unfolding type_info_of_lem
one_meaning w i e b =
    ap (told_of_lem (meaning_of (fields_of w))) (sym e)
    ∙ told_kind w (kind_of w) (meant_is w (both_left (six_of_both (fields_of w)) (tidy (fields_of w)) b))
