-- The bytes that were gathered are rewritten as all that the reader had: those that fill the buffer are bad, and so are any that are more.
use Rattle.std.proofs.Common.{◌≡◌, ℕ, ◌<◌, ◌≤◌, List, Option, None, Some, Result, Ok, Err, IfSome, OnOk, length, take, refl, sym, ap, ◌∙◌, inl, inr, arith, length-take-le}
use Rattle.filter.specs.Filter.{filter_of}
use Rattle.filter.specs.declared.FilterError.{FilterError}
use Rattle.retired.specs.Rewrite.{rewrite_of}
use Rattle.retired.proofs.Standing.{Sorted, sort, long_is_bad}
use Rattle.rewritten.specs.Gathered.{Held}
use Rattle.rewritten.specs.Written.{written, written_of, IsOf}

-- a fact of what is there on success, from another
pub on_ok : {A E : Type 0} (r : Result A E) {P Q : Type 0} → (P → Q) → OnOk r P → OnOk r Q
on_ok (Ok x) f p = f p
on_ok (Err e) f p = tt

long_is_left : (f : List ℕ) → 803 < length f → rewrite_of f ≡ Err (record {})
long_is_left f h = by (sort f)
  where
    bad : filter_of f ≡ (Err FilterError.Bad)
    bad = long_is_bad f h

    by : Sorted f → rewrite_of f ≡ Err (record {})
    by (Sorted.plain k g) = let e = sym g ∙ bad in let z : ◌≡◌ {A = ℕ} 0 1 = cc in absurd (omega arith)
    by (Sorted.aged k g) = let e = sym g ∙ bad in let z : ◌≡◌ {A = ℕ} 0 1 = cc in absurd (omega arith)
    by (Sorted.breaks g o r) = r

pub all_of : (known : Option (List ℕ)) (buf : List ℕ) (n : ℕ) → 1024 ≡ length buf → n ≤ length buf → IfSome known (Held buf n) → IsOf known (written (take n buf))
all_of None buf n z l h = inl (take n buf, tt, refl)
all_of (Some xs) buf n z l (inl e) = inl (xs, refl, ap written (sym e))
all_of (Some xs) buf n z l (inr (q, m)) =
    let here = long_is_left (take n buf) (omega (arith, length-take-le n buf l)) in
    let whole = long_is_left xs (omega arith) in
    inl (xs, refl, ap (written_of (take n buf)) here ∙ sym (ap (written_of xs) whole))
