-- Where all bytes of the headers are there, the rules give the fields at their places: `standard`, `extended`, `headers`, `storage` and `routed`.
-- Assumes nothing.
use Prim.Native.Nat.{ℕ, ◌+◌, ◌-◌, ◌*◌, ◌≤◌, ◌<◌}
use native.Mathlib.Omega.{arith}
use native.Mathlib.Nat.{sub-zero}
use mathlib.Core.Path.{◌≡◌, refl, ap, ◌∙◌}
use mathlib.Core.Bool.{Bool, true, false}
use mathlib.Core.List.{List}
use lib.ListN.{length, get_or}
use lib.Dec.{leb}
use borrow.Author.Tests.{le-leb, lt-leb}
use Rattle.wire.specs.Answer.{Parser}
use Rattle.wire.specs.Answer.Ans.{done, hickup}
use Rattle.wire.specs.Parser.{pick, ret, refuse, choose, here, ◌>>=◌}
use Rattle.wire.specs.Number.{number_of, number}
use Rattle.wire.specs.Run.{range, bytes}
use Rattle.wire.proofs.Step.{step, then_done, then_hickup, fixed_done, asking_done, ret_is, here_is, refuse_is, choose_true, choose_false}
use Rattle.strings.specs.Text.{ended_text, text_need, text, identified}
use Rattle.mark.specs.First.{pattern, find}
use Rattle.headertype.specs.Bits.{bit, flag, one_if_of}
use Rattle.headertype.specs.HeaderType.{big_bit_of, text_bit_of, num_bit_of, all_headers, overall_length_of}
use Rattle.headertype.specs.declared.Endianness.{Endianness}
use Rattle.headertype.specs.declared.StandardHeader.{StandardHeader}
use Rattle.headertype.proofs.Again.{overall}
use Rattle.headertype.proofs.Lengths.{one_bit}
use Rattle.headers.specs.Standard.{maybe_id, maybe_number_of, endian_of, header_of_lem, flagged, standard}
use Rattle.headers.specs.Extended.{named, extended}
use Rattle.storage.specs.Storage.{marked, owned, stored, storage}
use Rattle.filter.specs.declared.Filter.{Filter}
use Rattle.parse.specs.Message.{having_from, seen, maybe_extended_of, headers_of_lem, finished, headers, routed}
use Rattle.outline.specs.There.{behind, id_if, number_if, type_at, counter_at, length_at, session_place, time_place, extended_place_of, ecu_at, session_at, time_at, standard_at, extended_at, extended_if, stored_at, headers_at}
use Rattle.std.specs.Prelude.{Option, Some, None}
use Rattle.storage.specs.declared.Stored.{Stored}
use Rattle.messageinfo.specs.declared.ExtendedHeader.{ExtendedHeader}
use Rattle.wire.specs.declared.Text.{Text}

-- ---- fields that are there
module _ (s : List ℕ) (at : ℕ) where
  pub number_there : (big : Bool) (w : ℕ) → at + w ≤ length s → number big w s at ≡ done (number_of big w s at) (at + w)
  unfolding number
  number_there big w h = fixed_done w (number_of big w) s at (omega arith)

  pub byte_number : number_of true 1 s at ≡ get_or s at 0
  unfolding number_of
  byte_number =
      let e : at + 0 ≡ at = omega arith in
      rw e (omega arith)

  pub bytes_there : (n : ℕ) → at + n ≤ length s → bytes n s at ≡ done (range at n) (at + n)
  unfolding bytes
  bytes_there n h = fixed_done n (λ s at. range at n) s at (omega arith)

  pub id_there : at + 4 ≤ length s → identified s at ≡ done (ended_text 4 s at) (at + 4)
  unfolding identified text
  id_there h = asking_done 4 (text_need 4) (λ s at. done (ended_text 4 s at) (at + 4)) s at (omega arith)

  maybe_id_lem : (t : Bool) → at + 4 ≤ length s → maybe_id t s at ≡ done (id_if t s at) (behind t at)
  unfolding maybe_id choose
  maybe_id_lem true h = step identified _ s at (id_there h) (ret_is _ s (at + 4))
  maybe_id_lem false h = ret_is None s at

  maybe_number_lem : (t : Bool) → at + 4 ≤ length s → maybe_number_of t s at ≡ done (number_if t s at) (behind t at)
  unfolding maybe_number_of choose
  maybe_number_lem true h = step (number true 4) _ s at (number_there true 4 h) (ret_is _ s (at + 4))
  maybe_number_lem false h = ret_is None s at

-- at most four bytes further
behind_is : (t : Bool) (at : ℕ) → behind t at ≡ at + one_if_of t * 4
behind_is true at = omega arith
behind_is false at = omega arith

behind_most : (t : Bool) (at : ℕ) → behind t at ≤ at + 4
behind_most true at = omega arith
behind_most false at = omega arith

-- ---- the standard header
module _ (s : List ℕ) (at : ℕ) (there : at + 16 ≤ length s) where
  fields_there : {A : Type 0} (type : ℕ) (k : Option Text → Option ℕ → Option ℕ → Parser A)
      → (maybe_id (flag 4 type) >>= (λ ecu. maybe_number_of (flag 8 type) >>= (λ session. maybe_number_of (flag 16 type) >>= (λ time. k ecu session time)))) s (at + 4)
      ≡ k (ecu_at type s at) (session_at type s at) (time_at type s at) s (extended_place_of type at)
  fields_there type k =
      let b = behind_most (flag 4 type) (at + 4) in
      let c = behind_most (flag 8 type) (session_place type at) in
      step _ _ s _ (maybe_id_lem s (at + 4) (flag 4 type) (omega arith))
      (step _ _ s _ (maybe_number_lem s (session_place type at) (flag 8 type) (omega (arith, b)))
      (step _ _ s _ (maybe_number_lem s (time_place type at) (flag 16 type) (omega (arith, b, c))) refl))

  length_there : {A : Type 0} (k : ℕ → Parser A) → (number true 2 >>= k) s (at + 1 + 1) ≡ k (length_at s at) s (at + 4)
  length_there k =
      let e : at + 1 + 1 ≡ at + 2 = omega arith in
      let g : at + 2 + 2 ≡ at + 4 = omega arith in
      ap (λ (n : ℕ). (number true 2 >>= k) s n) e ∙ step (number true 2) k s (at + 2) (number_there s (at + 2) true 2 (omega arith)) (ap (k (length_at s at) s) g)

  opened : {A : Type 0} (k : ℕ → ℕ → ℕ → Parser A)
      → (number true 1 >>= (λ type. number true 1 >>= (λ counter. number true 2 >>= (λ length. k type counter length)))) s at
      ≡ k (type_at s at) (counter_at s at) (length_at s at) s (at + 4)
  opened k =
      step _ _ s _ (number_there s at true 1 (omega arith))
      (step _ _ s _ (number_there s (at + 1) true 1 (omega arith)) (length_there (k (type_at s at) (counter_at s at))))

  flagged_there : (t n : ℕ) → flagged t (counter_at s at) n s (at + 4)
      ≡ choose (leb (all_headers t) n) (ret (standard_at t n s at)) (refuse 1) s (extended_place_of t at)
  unfolding flagged standard_at
  flagged_there t n = fields_there t (λ ecu session time. choose (leb (all_headers t) n) (ret (header_of_lem t (counter_at s at) n ecu session time)) (refuse 1))

  pub standard_short : length_at s at < all_headers (type_at s at) → standard s at ≡ hickup 1
  unfolding standard
  standard_short h = opened flagged ∙ flagged_there (type_at s at) (length_at s at) ∙ choose_false _ _ s _ (lt-leb _ _ h) ∙ refuse_is 1 s _

  pub standard_there : all_headers (type_at s at) ≤ length_at s at → standard s at ≡ done (standard_at (type_at s at) (length_at s at) s at) (extended_place_of (type_at s at) at)
  unfolding standard
  standard_there h = opened flagged ∙ flagged_there (type_at s at) (length_at s at) ∙ choose_true _ _ s _ (le-leb _ _ h) ∙ ret_is _ s _

-- ---- the extended header
module _ (s : List ℕ) (at : ℕ) (there : at + 10 ≤ length s) where
  pub extended_there : extended s at ≡ done (extended_at s at) (at + 10)
  unfolding extended named extended_at
  extended_there =
      let two : at + 1 + 1 ≡ at + 2 = omega arith in
      let six : at + 2 + 4 ≡ at + 6 = omega arith in
      let ten : at + 6 + 4 ≡ at + 10 = omega arith in
      step _ _ s _ (number_there s at true 1 (omega arith))
      (step _ _ s _ (number_there s (at + 1) true 1 (omega arith))
      (rw two (step _ _ s _ (id_there s (at + 2) (omega arith))
      (rw six (step _ _ s _ (id_there s (at + 6) (omega arith)) (ret_is _ s _ ∙ ap (λ (n : ℕ). done (extended_at s at) n) ten))))))

  maybe_extended_lem : (t : Bool) → maybe_extended_of t s at ≡ done (extended_if t s at) (pick t (at + 10) at)
  unfolding maybe_extended_of choose
  maybe_extended_lem true = step extended _ s at extended_there (ret_is _ s (at + 10))
  maybe_extended_lem false = ret_is None s at

-- ---- a header's length is the one that was declared
big_bit_lem : (t : ℕ) → big_bit_of (endian_of t) ≡ bit 2 t
unfolding endian_of
big_bit_lem t = by (flag 2 t) ∙ one_bit 2 t
  where
    by : (b : Bool) → big_bit_of (pick b Endianness.Big Endianness.Little) ≡ one_if_of b
    by true = refl
    by false = refl

text_bit_lem : (b : Bool) (s : List ℕ) (at : ℕ) → text_bit_of (id_if b s at) ≡ one_if_of b
text_bit_lem true s at = refl
text_bit_lem false s at = refl

num_bit_lem : (b : Bool) (s : List ℕ) (at : ℕ) → num_bit_of (number_if b s at) ≡ one_if_of b
num_bit_lem true s at = refl
num_bit_lem false s at = refl

pub declared_again : (t n : ℕ) (s : List ℕ) (at : ℕ) → t < 256 → all_headers t ≤ n → overall_length_of (standard_at t n s at) ≡ n
unfolding standard_at header_of_lem
declared_again t n s at byte h =
    overall (standard_at t n s at) t byte (one_bit 1 t) (big_bit_lem t) (text_bit_lem (flag 4 t) s _ ∙ one_bit 4 t) (num_bit_lem (flag 8 t) s _ ∙ one_bit 8 t) (num_bit_lem (flag 16 t) s _ ∙ one_bit 16 t) refl
    ∙ omega arith

-- where all headers end
ext_end : (b : Bool) (at : ℕ) → pick b (at + 10) at ≡ at + one_if_of b * 10
ext_end true at = omega arith
ext_end false at = omega arith

pub headers_end_lem : (t at : ℕ) → pick (flag 1 t) (extended_place_of t at + 10) (extended_place_of t at) ≡ at + all_headers t
unfolding all_headers
headers_end_lem t at =
    let a = behind_is (flag 4 t) (at + 4) in
    let b = behind_is (flag 8 t) (session_place t at) in
    let c = behind_is (flag 16 t) (time_place t at) in
    let d = ext_end (flag 1 t) (extended_place_of t at) in
    omega (arith, a, b, c, d, one_bit 1 t, one_bit 4 t, one_bit 8 t, one_bit 16 t)

-- ---- all headers behind the storage header
abbrev head : List ℕ → ℕ → StandardHeader
head s at = standard_at (type_at s at) (length_at s at) s at

abbrev ext : List ℕ → ℕ → Option ExtendedHeader
ext s at = extended_if (flag 1 (type_at s at)) s (extended_place_of (type_at s at) at)

pub extended_place_lem : (t at : ℕ) → extended_place_of t at ≤ at + 16
extended_place_lem t at =
    let a = behind_most (flag 4 t) (at + 4) in
    let b = behind_most (flag 8 t) (session_place t at) in
    let c = behind_most (flag 16 t) (time_place t at) in
    omega (arith, a, b, c)

from_there : {A : Type 0} (start n m : ℕ) (f : List ℕ → A) (s : List ℕ) (at : ℕ) → m ≡ n → n ≤ length s - start → having_from start m (seen f) s at ≡ done (f s) at
unfolding having_from seen
from_there start n m f s at e h = rw (e, le-leb n (length s - start) h)

module _ (f : List ℕ) (filter : Filter) (o : Option Stored) (s : List ℕ) (at : ℕ) (there : at + 26 ≤ length s) where
  headers_short : length_at s at < all_headers (type_at s at) → headers f filter o s at ≡ hickup 1
  unfolding headers
  headers_short h = step here _ s at (here_is s at) (then_hickup standard _ s at (standard_short s at (omega arith) h))

  module _ (long : all_headers (type_at s at) ≤ length_at s at) where
    -- up to the test of the length
    up_to_length : headers f filter o s at ≡ having_from at (overall_length_of (head s at)) (seen (headers_of_lem f filter o (head s at) (ext s at))) s (at + all_headers (type_at s at))
    unfolding headers finished standard_at header_of_lem
    up_to_length =
        step here _ s at (here_is s at)
        (step standard _ s at (standard_there s at (omega arith) long)
        (step (maybe_extended_of _) _ s _ (maybe_extended_lem s (extended_place_of (type_at s at) at) (omega (arith, extended_place_lem (type_at s at) at)) (flag 1 (type_at s at)))
        (ap (having_from at (overall_length_of (head s at)) (seen (headers_of_lem f filter o (head s at) (ext s at))) s) (headers_end_lem (type_at s at) at))))

    module _ (byte : type_at s at < 256) where
      headers_there : length_at s at ≤ length s - at → headers f filter o s at ≡ done (headers_of_lem f filter o (head s at) (ext s at) s) (at + all_headers (type_at s at))
      headers_there h = up_to_length ∙ from_there at (length_at s at) _ _ s _ (declared_again (type_at s at) (length_at s at) s at byte long) h

-- ---- the storage header
stored_there : (s : List ℕ) (i : ℕ) → i + 16 ≤ length s → stored i s i ≡ done (stored_at s i) (i + 16)
unfolding stored owned stored_at bytes
stored_there s i h =
    let eight : i + 4 + 4 ≡ i + 8 = omega arith in
    let twelve : i + 8 + 4 ≡ i + 12 = omega arith in
    let sixteen : i + 12 + 4 ≡ i + 16 = omega arith in
    step _ _ s _ (fixed_done 4 (λ s at. range at 4) s i (omega arith))
    (step _ _ s _ (number_there s (i + 4) false 4 (omega arith))
    (rw eight (step _ _ s _ (number_there s (i + 8) false 4 (omega arith))
    (rw twelve (step _ _ s _ (id_there s (i + 12) (omega arith)) (ret_is _ s _ ∙ ap (λ (n : ℕ). done (stored_at s i) n) sixteen))))))

pub storage_there : (s : List ℕ) (i : ℕ) → find pattern s 0 ≡ Some i → i + 16 ≤ length s → storage s 0 ≡ done (stored_at s i) (i + 16)
unfolding storage marked
storage_there s i found h = rw (found, le-leb 16 (length s - 0) (omega arith), sub-zero) (stored_there s i h)

-- ---- the whole
module _ (f : List ℕ) (filter : Filter) (s : List ℕ) (i : ℕ) (found : find pattern s 0 ≡ Some i) (there : i + 42 ≤ length s) where
  behind_storage : routed f filter true s 0 ≡ headers f filter (stored_at s i) s (i + 16)
  unfolding routed choose
  behind_storage = then_done storage _ s 0 (storage_there s i found (omega arith))

  pub routed_short : length_at s (i + 16) < all_headers (type_at s (i + 16)) → routed f filter true s 0 ≡ hickup 1
  routed_short h = behind_storage ∙ headers_short f filter (stored_at s i) s (i + 16) (omega arith) h

  module _ (long : all_headers (type_at s (i + 16)) ≤ length_at s (i + 16)) (byte : type_at s (i + 16) < 256) where
    pub routed_there : length_at s (i + 16) ≤ length s - (i + 16)
        → routed f filter true s 0 ≡ done (headers_at f filter s i (type_at s (i + 16)) (length_at s (i + 16))) (i + 16 + all_headers (type_at s (i + 16)))
    unfolding headers_at
    routed_there h = behind_storage ∙ headers_there f filter (stored_at s i) s (i + 16) (omega arith) long byte h
