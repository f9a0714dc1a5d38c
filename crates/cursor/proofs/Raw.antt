-- The raw values of arguments in a row, handed out one a call.
--     raw-to-its-end     as many calls as arguments are left, or more, give the raw values of the list in its order, or the list's need or Hickup
--     raw-never-more     however often it is called, a cursor hands out no more than it has arguments left
--     raw-at-the-end     and with none left it is at its end, whatever the bytes
-- Assumes nothing.
use Prim.Native.Nat.{ℕ, zero, suc, ◌≤◌, ◌<◌, zero-le}
use native.Mathlib.Omega.{arith}
use mathlib.Core.Path.{◌≡◌, refl, sym, ap, ◌∙◌}
use mathlib.Core.Bool.{Bool}
use mathlib.Core.List.{List, ◌∷◌}
use Rattle.wire.specs.Answer.{Ans}
use Rattle.wire.specs.Answer.Ans.{done, need, hickup, broken}
use Rattle.wire.specs.Parser.{◌>>=◌, ret, here}
use Rattle.wire.specs.declared.Range.{Range}
use Rattle.wire.proofs.Step.{then_done, then_need, then_hickup, then_broken, ret_is, here_is}
use Rattle.dlt.specs.declared.Argument.{Argument}
use Rattle.arguments.specs.Argument.{argument}
use Rattle.cursor.specs.Row.{mapped, before, onward, walk, counted, handed}
use Rattle.cursor.specs.Cursor.{listed}
use Rattle.cursor.specs.Raw.{raw_of_lem, raw_cursor, hand_out_of, first_raw, raw_turn, raw_step_of, raw_called, kept, kept_before, raw_kept}
use Rattle.cursor.specs.declared.RawCursor.{RawCursor}
use Rattle.cursor.proofs.Walks.{mapped_twice, more}
use Rattle.cursor.proofs.Row.{listed_more}
use Rattle.std.specs.Prelude.{Option, Some, None, Err}
use Rattle.cursor.specs.declared.HandedRaw.{HandedRaw}
use Rattle.wire.specs.Answers.{stop_ans}
use Rattle.wire.specs.declared.Stop.{Stop}

module _ (big : Bool) (s : List ℕ) (at : ℕ) where
  -- ---- one step, with n arguments left: one and m more
  module _ (n m : ℕ) (h : n ≡ suc m) where
    some : first_raw big n s at ≡ (argument big >>= (λ a. hand_out_of big m (first_raw big m) (raw_of_lem a.value))) s at
    unfolding first_raw
    some = ap (λ (k : ℕ). first_raw big k s at) h

    pub raw_need : {l : ℕ} → argument big s at ≡ need l → first_raw big n s at ≡ need l
    raw_need e = some ∙ then_need (argument big) _ s at e

    pub raw_hickup : {r : ℕ} → argument big s at ≡ hickup r → first_raw big n s at ≡ hickup r
    raw_hickup e = some ∙ then_hickup (argument big) _ s at e

    pub raw_stops : (e : Stop) → argument big s at ≡ stop_ans (Err e) → first_raw big n s at ≡ stop_ans (Err e)
    raw_stops (Stop.Need l) q = raw_need q
    raw_stops (Stop.Hickup r) q = raw_hickup q

    pub raw_broken : argument big s at ≡ broken → first_raw big n s at ≡ broken
    raw_broken e = some ∙ then_broken (argument big) _ s at e

    module _ {a : Argument} {b : ℕ} (e : argument big s at ≡ done a b) {o : Option Range} (q : o ≡ raw_of_lem a.value) where
      behind : first_raw big n s at ≡ hand_out_of big m (first_raw big m) o s b
      behind = some ∙ then_done (argument big) _ s at e ∙ ap (λ (p : Option Range). hand_out_of big m (first_raw big m) p s b) (sym q)

      pub raw_item : {r : Range} → o ≡ Some r → first_raw big n s at ≡ done (Some (record { range = r; rest = raw_cursor b m big })) b
      raw_item t = behind ∙ ap (λ (p : Option Range). hand_out_of big m (first_raw big m) p s b) t ∙ then_done here _ s b (here_is s b) ∙ ret_is _ s b

      pub raw_over : o ≡ None → first_raw big n s at ≡ first_raw big m s b
      raw_over t = behind ∙ ap (λ (p : Option Range). hand_out_of big m (first_raw big m) p s b) t

  pub raw_none : (n : ℕ) → n < 1 → first_raw big n s at ≡ done None at
  unfolding first_raw ret
  raw_none n h =
      let z : n ≡ 0 = omega arith in
      ap (λ (k : ℕ). first_raw big k s at) z

pub raw_at_the_end : (c : RawCursor) (s : List ℕ) (at : ℕ) → c.left ≡ 0 → raw_turn c s at ≡ done None at
raw_at_the_end c s at h = raw_none c.big s at c.left (omega arith)

-- ---- what its calls hand out
-- the raw values of a list of one more, by whether its first is raw
abbrev keep : Option Range → Ans (List Range) → Ans (List Range)
keep (Some r) x = before r x
keep None x = x

keep_is : (a : Argument) (x : Ans (List Argument)) (o : Option Range) → raw_of_lem a.value ≡ o → raw_kept (before a x) ≡ keep o (raw_kept x)
keep_is a x o q = mapped_twice kept (λ rest. a ∷ rest) x ∙ ap (λ (p : Option Range). mapped (λ rest. kept_before p (kept rest)) x) q ∙ by o
  where
    by : (o : Option Range) → mapped (λ rest. kept_before o (kept rest)) x ≡ keep o (raw_kept x)
    by (Some r) = sym (mapped_twice (λ rest. r ∷ rest) kept x)
    by None = refl

module _ (big : Bool) (s : List ℕ) where
  -- a call with n left, where the calls behind it are right for fewer
  module _ (k : RawCursor → Ans (List Range)) where
    call : (n at : ℕ) → ((l b : ℕ) → l < n → k (raw_cursor b l big) ≡ raw_kept (listed big l s b)) → onward k (mapped raw_step_of (first_raw big n s at)) ≡ raw_kept (listed big n s at)
    unfolding listed ret
    call zero at next = ap (λ (x : Ans (Option HandedRaw)). onward k (mapped raw_step_of x)) (raw_none big s at 0 (omega arith))
    call (suc n) at next = by (argument big s at) refl (λ b. call n b (λ l d h. next l d (omega arith))) ∙ ap raw_kept (sym (listed_more big s n at))
      where
        onto : Ans (Option HandedRaw) → Ans (List Range)
        onto x = onward k (mapped raw_step_of x)

        first : (a : Argument) (b : ℕ) → argument big s at ≡ done a b → (o : Option Range) → raw_of_lem a.value ≡ o
            → ((b : ℕ) → onto (first_raw big n s b) ≡ raw_kept (listed big n s b))
            → onto (first_raw big (suc n) s at) ≡ keep o (raw_kept (listed big n s b))
        first a b e (Some r) q over = ap onto (raw_item big s at (suc n) n refl e (sym q) refl) ∙ ap (before r) (next n b (omega arith))
        first a b e None q over = ap onto (raw_over big s at (suc n) n refl e (sym q) refl) ∙ over b

        by : (x : Ans Argument) → argument big s at ≡ x
            → ((b : ℕ) → onto (first_raw big n s b) ≡ raw_kept (listed big n s b))
            → onto (first_raw big (suc n) s at) ≡ raw_kept (more (listed big n s) x)
        by (done a b) e over = first a b e (raw_of_lem a.value) refl over ∙ sym (keep_is a (listed big n s b) (raw_of_lem a.value) refl)
        by (need m) e over = ap onto (raw_need big s at (suc n) n refl e)
        by (hickup r) e over = ap onto (raw_hickup big s at (suc n) n refl e)
        by broken e over = ap onto (raw_broken big s at (suc n) n refl e)

  module _ (k : RawCursor → ℕ) where
    count : (n at : ℕ) → ((l b : ℕ) → l < n → k (raw_cursor b l big) ≤ l) → counted k (mapped raw_step_of (first_raw big n s at)) ≤ n
    count zero at less = rw (raw_none big s at 0 (omega arith)) zero-le
    count (suc n) at less = by (argument big s at) refl (λ b. count n b (λ l d h. less l d (omega arith)))
      where
        first : (a : Argument) (b : ℕ) → argument big s at ≡ done a b → (o : Option Range) → raw_of_lem a.value ≡ o
            → ((b : ℕ) → counted k (mapped raw_step_of (first_raw big n s b)) ≤ n) → counted k (mapped raw_step_of (first_raw big (suc n) s at)) ≤ suc n
        first a b e (Some r) q over = rw (raw_item big s at (suc n) n refl e (sym q) refl) (let l : k (raw_cursor b n big) ≤ n = less n b (omega arith) in omega arith)
        first a b e None q over = rw (raw_over big s at (suc n) n refl e (sym q) refl) (let l : counted k (mapped raw_step_of (first_raw big n s b)) ≤ n = over b in omega arith)

        by : (x : Ans Argument) → argument big s at ≡ x → ((b : ℕ) → counted k (mapped raw_step_of (first_raw big n s b)) ≤ n) → counted k (mapped raw_step_of (first_raw big (suc n) s at)) ≤ suc n
        by (done a b) e over = first a b e (raw_of_lem a.value) refl over
        by (need m) e over = rw (raw_need big s at (suc n) n refl e) zero-le
        by (hickup r) e over = rw (raw_hickup big s at (suc n) n refl e) zero-le
        by broken e over = rw (raw_broken big s at (suc n) n refl e) zero-le

pub raw_to_its_end : (s : List ℕ) (n : ℕ) (c : RawCursor) → c.left ≤ n → walk (raw_called s) (λ c. c.at) n c ≡ raw_kept (listed c.big c.left s c.at)
unfolding listed ret
raw_to_its_end s zero c h =
    let e : c.left ≡ 0 = omega arith in
    sym (ap (λ (l : ℕ). raw_kept (listed c.big l s c.at)) e)
raw_to_its_end s (suc n) c h = call c.big s (walk (raw_called s) (λ c. c.at) n) c.left c.at (λ l b g. raw_to_its_end s n (raw_cursor b l c.big) (omega arith))

pub raw_never_more : (s : List ℕ) (n : ℕ) (c : RawCursor) → handed (raw_called s) n c ≤ c.left
raw_never_more s zero c = zero-le
raw_never_more s (suc n) c = count c.big s (handed (raw_called s) n) c.left c.at (λ l b g. raw_never_more s n (raw_cursor b l c.big))
