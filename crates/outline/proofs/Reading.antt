-- What `search` is handed for the functions of this crate. Assumes nothing.
use Prim.Native.Nat.{ℕ, ◌+◌, ◌-◌, ◌≤◌, ◌<◌}
use native.Mathlib.Omega.{arith}
use mathlib.Core.Path.{◌≡◌, sym, ap, ◌∙◌}
use mathlib.Core.Bool.{true}
use mathlib.Core.List.{List}
use lib.ListN.{length}
use borrow.Author.Tests.{le-leb, lt-leb}
use Rattle.wire.specs.Number.{number_of, number}
use Rattle.wire.proofs.Step.{told}
use Rattle.mark.specs.First.{pattern, find}
use Rattle.headertype.specs.HeaderType.{all_headers}
use Rattle.headers.proofs.Inverse.{same_value, no_need}
use Rattle.outline.specs.There.{length_at}
use Rattle.outline.specs.Outline.{tested, outline_of}
use Rattle.outline.specs.declared.OutlineAns.{OutlineAns}
use Rattle.outline.proofs.There.{number_there}
use Rattle.std.specs.Prelude.{Option, Some, None, Result, Ok, Err}
use Rattle.wire.specs.Answers.{need_ans}
use Rattle.wire.specs.declared.Got.{Got}
use Rattle.wire.specs.declared.Need.{Need}

-- a number whose bytes are there is read
module _ (s : List ℕ) (at : ℕ) (x : Result (Got ℕ) Need) where
  pub byte_read : (g : Got ℕ) → at + 1 ≤ length s → need_ans x ≡ number true 1 s at → x ≡ Ok g → g.v ≡ number_of true 1 s at
  byte_read g h e q = sym (same_value (sym (told need_ans e q) ∙ number_there s at true 1 h)).0

  pub byte_missing : (n : Need) → at + 1 ≤ length s → need_ans x ≡ number true 1 s at → x ≡ Err n → 0 ≡ number_of true 1 s at
  byte_missing n h e q = no_need (sym (told need_ans e q) ∙ number_there s at true 1 h)

  pub pair_read : (g : Got ℕ) → at + 2 ≤ length s → need_ans x ≡ number true 2 s at → x ≡ Ok g → g.v ≡ number_of true 2 s at
  pair_read g h e q = sym (same_value (sym (told need_ans e q) ∙ number_there s at true 2 h)).0

  pub pair_missing : (n : Need) → at + 2 ≤ length s → need_ans x ≡ number true 2 s at → x ≡ Err n → 0 ≡ number_of true 2 s at
  pair_missing n h e q = no_need (sym (told need_ans e q) ∙ number_there s at true 2 h)

-- the tests, as the code has them: a is what a call gave for all headers
module _ (s : List ℕ) (i t n a : ℕ) (is_all : a ≡ all_headers t) where
  pub test_short : n < a → OutlineAns.Hickup i ≡ tested s i t n
  unfolding tested
  test_short h = rw (lt-leb (all_headers t) n (rw (← is_all) h))

  pub test_lacks : a ≤ n → length s - (i + 16) < n → OutlineAns.Unseen ≡ tested s i t n
  unfolding tested
  test_lacks h k = rw (le-leb (all_headers t) n (rw (← is_all) h), lt-leb n (length s - (i + 16)) k)

  pub test_done : a ≤ n → n ≤ length s - (i + 16) → OutlineAns.Done (record { place = i; header_type = t; length = n }) ≡ tested s i t n
  unfolding tested
  test_done h k = rw (le-leb (all_headers t) n (rw (← is_all) h), le-leb n (length s - (i + 16)) k)

-- from the search on: l is what is left at the pattern
module _ (s : List ℕ) (x : Option ℕ) (d : x ≡ find pattern s 0) where
  pub glance_none : x ≡ None → 16 ≤ length s → OutlineAns.Nowhere 1 ≡ outline_of s
  unfolding outline_of
  glance_none q h = rw (sym d ∙ q, le-leb 16 (length s) h)

  pub glance_few : x ≡ None → length s < 16 → OutlineAns.Nowhere 0 ≡ outline_of s
  unfolding outline_of
  glance_few q h = rw (sym d ∙ q, lt-leb 16 (length s) h)

  module _ (i l : ℕ) (q : x ≡ Some i) (is-left : l ≡ length s - i) where
    pub glance_near : l < 42 → OutlineAns.Unseen ≡ outline_of s
    unfolding outline_of
    glance_near h = rw (sym d ∙ q, lt-leb 42 (length s - i) (rw (← is-left) h))

    pub glance_at : (t n : ℕ) (r : OutlineAns) → 42 ≤ l → t ≡ number_of true 1 s (i + 16) → n ≡ number_of true 2 s (i + 18) → r ≡ tested s i t n → r ≡ outline_of s
    unfolding outline_of
    glance_at t n r h e f g =
        let p : i + 18 ≡ i + 16 + 2 = omega arith in
        let z : n ≡ length_at s (i + 16) = f ∙ ap (number_of true 2 s) p in
        rw (sym d ∙ q, le-leb 42 (length s - i) (rw (← is-left) h), ← e, ← z) g

pub ruleset glancing = (byte_read, byte_missing, pair_read, pair_missing, test_short, test_lacks, test_done, glance_none, glance_few, glance_near, glance_at)
