-- The listing of all that a reader had, by way of either table.
use Rattle.std.proofs.Common.{◌≡◌, ℕ, zero, suc, ◌*◌, ◌<◌, List, [], ◌∷◌, ◌++◌, Option, None, Some, Result, Ok, Err, IfSome, OnOk, length, take, replicate, codes, refl, sym, ap, ◌∙◌, inl, inr, arith}
use Rattle.index.specs.Index.{Outcome, outcome}
use Rattle.index.specs.Calls.{fresh, unlimited}
use Rattle.index.specs.declared.Indexed.{Indexed}
use Rattle.entries.specs.declared.Entry.{Entry}
use Rattle.entries.specs.Flat.{numbers, spread, flat_of}
use Rattle.entries.proofs.Flat.{same_call}
use Rattle.filled.specs.Filled.{empty}
use Rattle.listed.specs.Listing.{entry_lines, entries_in, ending_text, outcome_text, index_of, listing_text, over_limit, Tells}

-- a fact of what is there on success, from another
pub on_ok : {A E : Type 0} (r : Result A E) {P Q : Type 0} → (P → Q) → OnOk r P → OnOk r Q
on_ok (Ok x) f p = f p
on_ok (Err e) f p = tt

-- a fresh table of numbers is a fresh table of entries
zeros : (n : ℕ) → numbers (replicate n empty) ≡ replicate (4 * n) 0
unfolding spread
zeros zero = refl
zeros (suc n) =
    let four : 4 * suc n ≡ suc (suc (suc (suc (4 * n)))) = omega arith in
    ap (λ (l : List ℕ). 0 ∷ 0 ∷ 0 ∷ 0 ∷ l) (zeros n) ∙ sym (ap (λ k. replicate k 0) four)

-- the entries of the numbers of a table are the table's
there_and_back : (l : List Entry) → entries_in (numbers l) ≡ l
unfolding spread entries_in
there_and_back [] = refl
there_and_back (e ∷ l) = ap (λ (k : List Entry). e ∷ k) (there_and_back l)

-- what is printed of an answer and a table of numbers
abbrev numbers_text : Outcome ℕ → List ℕ
numbers_text o = codes "start skipped length kind\n" ++ (entry_lines (take o.answer.state.used (entries_in o.table)) ++ ending_text o.answer.state o.answer.end)

-- by way of a table of numbers
pub by_numbers : (s room : List ℕ) (a : Indexed) (table : List ℕ) → room ≡ replicate 4096 0 → outcome [] unlimited s fresh room ≡ record { answer = a; table = table }
    → codes "start skipped length kind\n" ++ (entry_lines (take a.state.used (entries_in table)) ++ ending_text a.state a.end) ≡ listing_text s
by_numbers s room a table empty_room e =
    let o = index_of s in
    let flat : flat_of o ≡ record { answer = a; table = table } =
    sym (same_call [] unlimited s fresh (replicate 1024 empty)) ∙ ap (outcome [] unlimited s fresh) (zeros 1024 ∙ sym empty_room) ∙ e in
    sym (ap numbers_text flat)
    ∙ ap (λ (l : List Entry). codes "start skipped length kind\n" ++ (entry_lines (take o.answer.state.used l) ++ ending_text o.answer.state o.answer.end)) (there_and_back o.table)

-- by way of a table of structs
pub by_structs : (s : List ℕ) (a : Indexed) (table : List Entry) → index_of s ≡ record { answer = a; table = table }
    → codes "start skipped length kind\n" ++ (entry_lines (take a.state.used table) ++ ending_text a.state a.end) ≡ listing_text s
by_structs s a table e = sym (ap outcome_text e)

-- more bytes than the buffer holds
pub too_many : (known : Option (List ℕ)) (buf : List ℕ) → 65536 ≡ length buf → IfSome known (λ xs. length buf < length xs) → Tells known over_limit
too_many None buf z h = inl (0 ∷ buf, tt, inr (omega arith, refl))
too_many (Some xs) buf z h = inl (xs, refl, inr (omega arith, refl))
