-- Where the headers end, by what they say of themselves; and that a standard header's length is the declared one, whatever its type byte.
-- Assumes nothing.
use Prim.Native.Nat.{ℕ, ◌+◌, ◌*◌}
use native.Mathlib.Omega.{arith}
use mathlib.Core.Path.{◌≡◌, refl, ap, ◌∙◌}
use mathlib.Core.Bool.{Bool, true, false}
use mathlib.Core.List.{List}
use lib.Dec.{leb}
use borrow.Author.Tests.{leb-true}
use Rattle.wire.specs.Answer.Ans.{done}
use Rattle.wire.specs.Parser.{pick, ret, refuse, choose}
use Rattle.wire.specs.Number.{number, number_of}
use Rattle.strings.specs.Text.{ended_text, identified}
use Rattle.headertype.specs.Bits.{flag, bit, one_if_of}
use Rattle.headertype.specs.HeaderType.{text_bit_of, num_bit_of, all_headers, header_type_byte_of, overall_length_of}
use Rattle.headertype.specs.declared.StandardHeader.{StandardHeader}
use Rattle.headertype.proofs.Lengths.{one_bit, all_headers_lem}
use Rattle.messageinfo.specs.declared.ExtendedHeader.{ExtendedHeader}
use Rattle.headers.specs.Standard.{maybe_id, maybe_number_of, header_of_lem, flagged, standard}
use Rattle.headers.specs.Extended.{extended_of_lem, named, extended}
use Rattle.headers.proofs.Inverse.{split, of_ret, of_refuse, of_number, of_id, of_maybe_id, of_maybe_number}
use Rattle.std.specs.Prelude.{Option, Some, None}
use Rattle.wire.specs.declared.Text.{Text}

-- ---- a field that is there if flagged: its bit, and four bytes for it
id_bit : (b : Bool) (o : Option Text) (s : List ℕ) (at : ℕ) → o ≡ pick b (Some (ended_text 4 s at)) None → text_bit_of o ≡ one_if_of b
id_bit true o s at e = rw e
id_bit false o s at e = rw e

num_bit_lem : (b : Bool) (o : Option ℕ) (n : ℕ) → o ≡ pick b (Some n) None → num_bit_of o ≡ one_if_of b
num_bit_lem true o n e = rw e
num_bit_lem false o n e = rw e

id_ends : (t : Bool) (o : Option Text) (n : ℕ) (s : List ℕ) (at : ℕ) → maybe_id t s at ≡ done o n → n ≡ at + text_bit_of o * 4
id_ends true o n s at e = let r = of_maybe_id true s at e in rw r.0 r.1
id_ends false o n s at e = let r = of_maybe_id false s at e in rw r.0 r.1

num_ends : (t : Bool) (o : Option ℕ) (n : ℕ) (s : List ℕ) (at : ℕ) → maybe_number_of t s at ≡ done o n → n ≡ at + num_bit_of o * 4
num_ends true o n s at e = let r = of_maybe_number true s at e in rw r.0 r.1
num_ends false o n s at e = let r = of_maybe_number false s at e in rw r.0 r.1

-- what is shown of a header that was read: where it ends, and the length that it says
record Says (h : StandardHeader) (from n declared : ℕ) : Type 0 where
  ends : n + one_if_of h.has_extended_header * 10 ≡ from + all_headers (header_type_byte_of h)
  says : overall_length_of h ≡ declared

flagged_says : (type counter long : ℕ) (h : StandardHeader) (n : ℕ) (s : List ℕ) (from : ℕ) → flagged type counter long s (from + 4) ≡ done h n → Says h from n long
unfolding flagged choose header_of_lem overall_length_of all_headers
flagged_says type counter long h n s from e =
    let r1 = split (maybe_id (flag 4 type)) _ s (from + 4) e in
    let r2 = split (maybe_number_of (flag 8 type)) _ s r1.mid r1.second in
    let r3 = split (maybe_number_of (flag 16 type)) _ s r2.mid r2.second in
    let a = id_bit (flag 4 type) r1.value s (from + 4) (of_maybe_id (flag 4 type) s (from + 4) r1.first).0 ∙ one_bit 4 type in
    let b = num_bit_lem (flag 8 type) r2.value _ (of_maybe_number (flag 8 type) s r1.mid r2.first).0 ∙ one_bit 8 type in
    let c = num_bit_lem (flag 16 type) r3.value _ (of_maybe_number (flag 16 type) s r2.mid r3.first).0 ∙ one_bit 16 type in
    by r1.value r2.value r3.value r3.mid (leb (all_headers type) long) refl r3.second a b c
    (omega (arith, id_ends (flag 4 type) r1.value r1.mid s (from + 4) r1.first, num_ends (flag 8 type) r2.value r2.mid s r1.mid r2.first, num_ends (flag 16 type) r3.value r3.mid s r2.mid r3.first))
  where
    by : (ecu : Option Text) (session time : Option ℕ) (k : ℕ) (t : Bool) → leb (all_headers type) long ≡ t → pick t (ret (header_of_lem type counter long ecu session time) s k) (refuse 1 s k) ≡ done h n
        → text_bit_of ecu ≡ bit 4 type → num_bit_of session ≡ bit 8 type → num_bit_of time ≡ bit 16 type → k ≡ from + 4 + text_bit_of ecu * 4 + num_bit_of session * 4 + num_bit_of time * 4 → Says h from n long
    by ecu session time k true q g a b c z =
        let o = of_ret s k (header_of_lem type counter long ecu session time) g in
        let l = leb-true (all_headers type) long q in
        let d = one_bit 1 type in
        let f = all_headers_lem (header_of_lem type counter long ecu session time) in
        rw o.0 (record { ends = omega (arith, o.1, f, z); says = omega (arith, f, a, b, c, d, l) })
    by ecu session time k false q g a b c z = of_refuse s k 1 g

standard_reads : (h : StandardHeader) (n : ℕ) (s : List ℕ) (at : ℕ) → standard s at ≡ done h n → Says h at n (number_of true 2 s (at + 2))
unfolding standard
standard_reads h n s at e =
    let r1 = split (number true 1) _ s at e in
    let r2 = split (number true 1) _ s r1.mid r1.second in
    let r3 = split (number true 2) _ s r2.mid r2.second in
    let l1 = of_number true 1 s at r1.first in
    let l2 = of_number true 1 s r1.mid r2.first in
    let l3 = of_number true 2 s r2.mid r3.first in
    let two : r2.mid ≡ at + 2 = omega (arith, l1.1, l2.1) in
    let four : r3.mid ≡ at + 4 = omega (arith, l3.1, two) in
    let long : r3.value ≡ number_of true 2 s (at + 2) = l3.0 ∙ ap (number_of true 2 s) two in
    rw long at (flagged_says r1.value r2.value r3.value h n s at (rw four at r3.second))

-- a standard header ends where all headers end but for an extended header of ten bytes
pub standard_ends : (h : StandardHeader) (n : ℕ) (s : List ℕ) (at : ℕ) → standard s at ≡ done h n → n + one_if_of h.has_extended_header * 10 ≡ at + all_headers (header_type_byte_of h)
standard_ends h n s at e = (standard_reads h n s at e).ends

-- its length is the declared one
pub standard_says : (h : StandardHeader) (n : ℕ) (s : List ℕ) (at : ℕ) → standard s at ≡ done h n → overall_length_of h ≡ number_of true 2 s (at + 2)
standard_says h n s at e = (standard_reads h n s at e).says

-- and an extended header has ten bytes
pub extended_ends : (x : ExtendedHeader) (n : ℕ) (s : List ℕ) (at : ℕ) → extended s at ≡ done x n → n ≡ at + 10
unfolding extended named
extended_ends x n s at e =
    let r1 = split (number true 1) _ s at e in
    let r2 = split (number true 1) _ s r1.mid r1.second in
    let r3 = split identified _ s r2.mid r2.second in
    let r4 = split identified _ s r3.mid r3.second in
    let o = of_ret s r4.mid (extended_of_lem r1.value r2.value r3.value r4.value) r4.second in
    omega (arith, (of_number true 1 s at r1.first).1, (of_number true 1 s r1.mid r2.first).1, (of_id s r2.mid r3.first).1, (of_id s r3.mid r4.first).1, o.1)
