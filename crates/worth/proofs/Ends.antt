-- What steps 2 to 4 leave: where the headers end, that their ids lie within the bytes, and how long the message says that it is.
-- Assumes nothing.
use Prim.Native.Nat.{ℕ, ◌+◌, ◌*◌, ◌≤◌}
use native.Mathlib.Omega.{arith}
use mathlib.Core.Path.{◌≡◌, sym, ◌∙◌, subst}
use mathlib.Core.Bool.{Bool, true, false}
use mathlib.Core.List.{List}
use lib.ListN.{length}
use Rattle.wire.specs.Answer.Ans.{done}
use Rattle.wire.specs.Parser.{ret, here, choose}
use Rattle.wire.specs.Number.{number_of}
use Rattle.wire.specs.declared.Text.{Text}
use Rattle.wire.proofs.Step.{ends}
use Rattle.headertype.specs.Bits.{one_if_of}
use Rattle.headertype.specs.HeaderType.{all_headers, header_type_byte_of, overall_length_of}
use Rattle.headers.specs.Standard.{standard}
use Rattle.headers.specs.Extended.{extended}
use Rattle.headers.proofs.Laws.{standard_law}
use Rattle.headers.proofs.Inverse.{split, same_value, of_ret, ecu_inside}
use Rattle.headers.proofs.Ends.{standard_ends, standard_says, extended_ends}
use Rattle.storage.specs.Storage.{storage}
use Rattle.filtering.proofs.Stable.{IdsIn}
use Rattle.parse.specs.Message.{maybe_extended_of}
use Rattle.facts.proofs.Laws.{maybe_ids}
use Rattle.worth.specs.Opening.{Opening, opening_behind, opening}
use Rattle.std.specs.Prelude.{Option, Some, None}
use Rattle.storage.specs.declared.Stored.{Stored}
use Rattle.messageinfo.specs.declared.ExtendedHeader.{ExtendedHeader}

-- steps 3 and 4, read: where the two headers begin and end
pub record Parts (l : Opening) (n : ℕ) (s : List ℕ) : Type 0 where
  pub mid : ℕ
  pub first : standard s l.start ≡ done l.header mid
  pub second : maybe_extended_of l.header.has_extended_header s mid ≡ done l.extended n

same_parts : {l l' : Opening} {n n' : ℕ} {s : List ℕ} → l ≡ l' → n ≡ n' → Parts l' n' s → Parts l n s
same_parts a b p = rw (a, b) p

behind_parts : (o : Option Stored) (l : Opening) (n : ℕ) (s : List ℕ) (at : ℕ) → opening_behind o s at ≡ done l n → Parts l n s
unfolding opening_behind here
behind_parts o l n s at e =
    let r0 = split here _ s at e in
    let r1 = split standard _ s r0.mid r0.second in
    let r2 = split (maybe_extended_of r1.value.has_extended_header) _ s r1.mid r1.second in
    let q = of_ret s r2.mid (record { stored = o; start = r0.value; header = r1.value; extended = r2.value }) r2.second in
    let z : (r0.value ≡ at) × (r0.mid ≡ at) = same_value r0.first in
    same_parts q.0 q.1 (record { mid = r1.mid; first = subst (λ (k : ℕ). standard s k ≡ done r1.value r1.mid) (z.1 ∙ sym z.0) r1.first; second = r2.first })

pub parts : (t : Bool) (l : Opening) (n : ℕ) (s : List ℕ) (at : ℕ) → opening t s at ≡ done l n → Parts l n s
unfolding opening choose
parts true l n s at e = let r = split storage opening_behind s at e in behind_parts r.value l n s r.mid r.second
parts false l n s at e = behind_parts None l n s at e

pub ext_ends : (t : Bool) (o : Option ExtendedHeader) (n : ℕ) (s : List ℕ) (at : ℕ) → maybe_extended_of t s at ≡ done o n → n ≡ at + one_if_of t * 10
unfolding maybe_extended_of choose
ext_ends true o n s at e =
    let r = split extended (λ x. ret (Some x)) s at e in
    let q = of_ret s r.mid (Some r.value) r.second in
    omega (arith, q.1, extended_ends r.value r.mid s at r.first)
ext_ends false o n s at e = let q = of_ret s at None e in omega (arith, q.1)

module _ {l : Opening} {n : ℕ} {s : List ℕ} (p : Parts l n s) where
  -- the headers end so many bytes behind the storage header as their type byte says
  pub opening_ends : n ≡ l.start + all_headers (header_type_byte_of l.header)
  opening_ends = omega (arith, standard_ends l.header p.mid s l.start p.first, ext_ends l.header.has_extended_header l.extended n s p.mid p.second)

  -- the length is the declared one
  pub opening_says : overall_length_of l.header ≡ number_of true 2 s (l.start + 2)
  opening_says = standard_says l.header p.mid s l.start p.first

  -- the ids that a filter looks at lie within the bytes
  pub ecu_in : l.start ≤ length s → (t : Text) → l.header.ecu_id ≡ Some t → t.place.start + t.place.len ≤ length s
  ecu_in h = ecu_inside l.header p.mid s l.start h p.first

  pub ids_in_lem : l.start ≤ length s → IdsIn s l.extended
  ids_in_lem h = maybe_ids l.header.has_extended_header l.extended n s p.mid (ends {p = standard} s l.start standard_law h p.first).1 p.second
