-- The lemmas of this crate's rules, for `search` (wire's Reading.antt says how).
use Prim.Native.Nat.{ℕ, ◌+◌, ◌-◌, ◌≤◌, ◌<◌}
use mathlib.Core.Path.{◌≡◌, sym, ap, ◌∙◌}
use mathlib.Core.List.{List}
use lib.ListN.{length}
use lib.Dec.{lit<}
use borrow.Author.Tests.{le-leb, lt-leb}
use Rattle.wire.specs.Answer.{Ans, Parser}
use Rattle.wire.specs.Answer.Ans.{done, need}
use Rattle.wire.specs.Parser.{◌>>=◌}
use Rattle.wire.specs.Run.{bytes}
use Rattle.wire.specs.declared.Range.{Range}
use Rattle.wire.proofs.Reading.{step_need, end_need, reading}
use Rattle.wire.specs.declared.Got.{Got}
use Rattle.wire.specs.declared.Need.{Need}
use Rattle.std.specs.Prelude.{Result, Err, Option, Some, None}
use Rattle.std.specs.Result.{result_from_control_flow}
use Rattle.std.proofs.Common.{Continue, Break}
use Rattle.mark.specs.First.{pattern, find}
use Rattle.mark.proofs.Laws.{found_from}
use Rattle.headertype.specs.HeaderType.{overall_length_of}
use Rattle.headertype.specs.declared.StandardHeader.{StandardHeader}
use Rattle.storage.specs.Storage.{marked, stored, storage}
use Rattle.storage.specs.Consume.{skip, from, whole, consume}
use Rattle.storage.specs.declared.Stored.{Stored}
use Rattle.wire.specs.Answers.{need_ans}

-- ---- the storage header: l is what is left, r what the search gave
module _ (s : List ℕ) (at l : ℕ) (is-left : l ≡ length s - at) where
  pub storage_short : l < 16 → need 0 ≡ storage s at
  unfolding storage marked
  storage_short h = rw (lt-leb 16 (length s - at) (rw (← is-left) h))

  module _ (r : Option ℕ) (h : 16 ≤ l) (e : r ≡ find pattern s at) where
    pub storage_found : (i : ℕ) (x : Ans (Option Stored)) → r ≡ Some i → x ≡ stored (i - at) s i → x ≡ storage s at
    unfolding storage marked
    storage_found i x q f = rw (le-leb 16 (length s - at) (rw (← is-left) h), sym e ∙ q) f

    pub storage_none : (n : ℕ) → r ≡ None → n ≡ length s → done None n ≡ storage s at
    unfolding storage marked
    storage_none n q f = rw (le-leb 16 (length s - at) (rw (← is-left) h), sym e ∙ q, f)

-- the place is not before the start
pub place_from : (s : List ℕ) (at i : ℕ) (r : Option ℕ) → r ≡ find pattern s at → r ≡ Some i → at ≤ i
place_from s at i r e q = found_from pattern s at i (lit< tt) (sym e ∙ q)

-- ---- a message whole: n is the length that a call gave
module _ {B : Type 0} (h : StandardHeader) (n : ℕ) (e : n ≡ overall_length_of h) (start : ℕ) (k : Range → Parser B) (s : List ℕ) (at : ℕ)
    (r : Result (Got Range) Need) (f : _) (w : need_ans r ≡ bytes n s start) (q : r ≡ result_from_control_flow f) where
  pub step_whole : (g : Got Range) (x : Ans B) → f ≡ Continue g → x ≡ k g.v s g.next → x ≡ (from start (bytes (overall_length_of h)) >>= k) s at
  unfolding from
  step_whole g x t y = rw (← e) (step_need (from start (bytes n)) k s at r f g x w q t y)

  pub need_whole : (m : _) (x : Ans B) → f ≡ Break m → x ≡ need_ans {A = B} (Err m.0) → x ≡ (from start (bytes (overall_length_of h)) >>= k) s at
  unfolding from
  need_whole m x t y = rw (← e) (end_need (from start (bytes n)) k s at r f m x w q t y)

pub count_made : (h : StandardHeader) (n : ℕ) → n ≡ overall_length_of h → Some (16 + n) ≡ Some (16 + overall_length_of h)
count_made h n e = ap (λ (m : ℕ). Some (16 + m)) e

-- ---- consume: l is what is left
module _ (s : List ℕ) (at l : ℕ) (is-left : l ≡ length s - at) where
  pub consume_none : l < 1 → done None at ≡ consume s at
  unfolding consume
  consume_none h = rw (lt-leb 1 (length s - at) (rw (← is-left) h))

  pub consume_some : (x : Ans (Option ℕ)) → 1 ≤ l → x ≡ (skip >>= (λ lead. whole)) s at → x ≡ consume s at
  unfolding consume
  consume_some x h f = rw (le-leb 1 (length s - at) (rw (← is-left) h)) f

pub ruleset storage-reading = (reading, storage_short, storage_found, storage_none, step_whole, need_whole, count_made, consume_none, consume_some)
