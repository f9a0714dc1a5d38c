-- The lines of the entries left, one fewer at a time, and the entries of a table of numbers.
use Rattle.std.proofs.Common.{◌≡◌, ℕ, zero, suc, ◌+◌, ◌<◌, List, [], ◌∷◌, ◌++◌, length, take, get_or, refl, sym, ap, ◌∙◌, append_assoc, append-nil, arith}
use Rattle.entries.specs.declared.Entry.{Entry}
use Rattle.listed.specs.Listing.{entry_line, entry_lines, entries_in}

-- the first n of the entries left, where one comes: its line, and those of one fewer of the entries behind it
pub next_line : (d all : List ℕ) (n m : ℕ) (l k : List Entry) (e : Entry) → l ≡ e ∷ k → m + 1 ≡ n → d ++ entry_lines (take n l) ≡ all → (d ++ entry_line e) ++ entry_lines (take m k) ≡ all
unfolding entry_lines
next_line d all n m l k e is one so =
    let same : n ≡ suc m = omega (arith, one) in
    append_assoc d (entry_line e) (entry_lines (take m k)) ∙ sym (ap (λ (i : ℕ). d ++ entry_lines (take i (e ∷ k))) same) ∙ sym (ap (λ (i : List Entry). d ++ entry_lines (take n i)) is) ∙ so

-- where none comes, there is no more to write
pub last_line : (d all : List ℕ) (n : ℕ) (l : List Entry) → (0 < n → length l ≡ 0) → d ++ entry_lines (take n l) ≡ all → d ≡ all
unfolding entry_lines
last_line d all zero l ends so = sym (append-nil d) ∙ so
last_line d all (suc n) [] ends so = sym (append-nil d) ∙ so
last_line d all (suc n) (e ∷ l) ends so = let gone = ends (omega arith) in absurd (omega (arith, gone))

-- the four numbers of an entry
abbrev pub entry_of : List ℕ → Entry
entry_of x = record { start = get_or x 0 0; skipped = get_or x 1 0; length = get_or x 2 0; kind = get_or x 3 0 }

-- the numbers left, where four come: an entry, and those behind it
pub entry_next : (l x k : List ℕ) (n : ℕ) → l ≡ x ++ k → length x ≡ n → n ≡ 4 → entries_in l ≡ entry_of x ∷ entries_in k
unfolding entries_in
entry_next l (a ∷ b ∷ c ∷ d ∷ []) k n is len four = ap entries_in is
entry_next l [] k n is len four = absurd (omega (arith, len, four))
entry_next l (a ∷ []) k n is len four = absurd (omega (arith, len, four))
entry_next l (a ∷ b ∷ []) k n is len four = absurd (omega (arith, len, four))
entry_next l (a ∷ b ∷ c ∷ []) k n is len four = absurd (omega (arith, len, four))
entry_next l (a ∷ b ∷ c ∷ d ∷ e ∷ x) k n is len four = absurd (omega (arith, len, four))

-- where fewer than four are left, there is no entry
pub entry_none : (l : List ℕ) (n : ℕ) → length l < n → n ≡ 4 → length (entries_in l) ≡ 0
unfolding entries_in
entry_none [] n h four = refl
entry_none (a ∷ []) n h four = refl
entry_none (a ∷ b ∷ []) n h four = refl
entry_none (a ∷ b ∷ c ∷ []) n h four = refl
entry_none (a ∷ b ∷ c ∷ d ∷ l) n h four = absurd (omega (arith, h, four))
