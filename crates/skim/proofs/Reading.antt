-- The lemmas of the skimming rules, for `search` (wire's Reading.antt says how). Assumes nothing.
use Prim.Native.Nat.{ℕ, ◌+◌, ◌-◌, ◌/◌, ◌%◌, ◌≤◌, ◌<◌}
use mathlib.Core.Path.{◌≡◌, refl, sym, ap, ◌∙◌}
use mathlib.Core.Bool.{Bool, true, false}
use mathlib.Core.Logic.{◌⊎◌, inl, inr}
use mathlib.Core.List.{List}
use lib.ListN.{length}
use lib.Dec.{eqb}
use borrow.Author.Tests.{eq-eqb, ne_eqb}
use Rattle.wire.specs.Answer.{Ans, Parser}
use Rattle.wire.specs.Answer.Ans.{done, need, hickup}
use Rattle.wire.specs.Parser.{refuse, choose, ◌>>=◌}
use Rattle.wire.proofs.Step.{asking_done, asking_need, fixed_done, fixed_need}
use Rattle.wire.proofs.Reading.{by_done, by_need, reading}
use Rattle.wire.specs.declared.Got.{Got}
use Rattle.wire.specs.declared.Need.{Need}
use Rattle.wire.specs.declared.Text.{Text}
use Rattle.std.specs.Prelude.{Result, Ok, Err, IsErr, IsErrAnd}
use Rattle.std.proofs.lemmas.Bool.{false≢true}
use Rattle.std.specs.Result.{result_from_control_flow}
use Rattle.std.proofs.Common.{Continue, Break}
use Rattle.wire.specs.Number.{number}
use Rattle.strings.specs.Text.{text, text_need}
use Rattle.headertype.specs.Bits.{flag, either}
use Rattle.arguments.specs.Argument.{argument}
use Rattle.skim.specs.Skim.{skim_ans, passed, run, skim_text_of, skim_bool_of, skim_string_of, skim_raw_of, bytes_of, skim_float_of, skim_number_of, skim_bits, skim_word_of}
use Rattle.skim.proofs.Same.{text_skims, skim_same}
use Rattle.skim.proofs.Words.{word_same}
use Rattle.wire.specs.Answers.{need_ans}

-- ---- l is what `left` gave
module _ (n : ℕ) (s : List ℕ) (at l : ℕ) (is-left : l ≡ length s - at) where
  pub run_done : n ≤ l → done tt (at + n) ≡ run n s at
  unfolding run
  run_done h = sym (fixed_done n _ s at (rw (← is-left) h))

  pub run_need : l < n → need (n - l) ≡ run n s at
  unfolding run
  run_need h = rw is-left (sym (fixed_need n _ s at (rw (← is-left) h)))

  -- m is what it was told to need
  pub run_told : (m : Need) → m.0 ≡ n - l → l < n → skim_ans (Err m) ≡ run n s at
  run_told m e h = ap need e ∙ run_need h

  pub text_there : n ≤ l → done tt (at + n) ≡ skim_text_of n s at
  unfolding skim_text_of
  text_there h = sym (asking_done n (text_need n) _ s at (rw (← is-left) h))

-- ---- r is what the string reader gave
module _ (n : ℕ) (s : List ℕ) (at : ℕ) (r : Result (Got Text) Need) (e : need_ans r ≡ text n s at) where
  pub text_read : (g : Got Text) → r ≡ Ok g → done tt g.next ≡ skim_text_of n s at
  text_read g q = ap passed (ap need_ans (sym q) ∙ e) ∙ text_skims n s at

  pub text_lacks : (m : Need) → r ≡ Err m → need m.0 ≡ skim_text_of n s at
  text_lacks m q = ap passed (ap need_ans (sym q) ∙ e) ∙ text_skims n s at

  -- which is no text where bytes lack
  pub text_waits : (g : Got Text) → length s - at < n → r ≡ Ok g → ⊥
  unfolding text
  text_waits g h q = is_need (asking_need n (text_need n) _ s at h) (ap need_ans (sym q) ∙ e)
    where
      is_need : {x : Ans Text} {m : ℕ} → x ≡ need m → done g.v g.next ≡ x → ⊥
      is_need y z = let w : ◌≡◌ {A = Bool} true false = cc in false≢true (sym w)

-- m is what such a text's need was told to be
pub text_told : (n : ℕ) (s : List ℕ) (at : ℕ) (m : Need) → need m.0 ≡ skim_text_of n s at → skim_ans (Err m) ≡ skim_text_of n s at
text_told n s at m e = e

-- ---- a rule that is passed and refuses nothing
module _ {B : Type 0} (p : Parser Unit) (k : Unit → Parser B) (s : List ℕ) (at : ℕ) where
  pub step_skim : (r : Result ℕ Need) (f : _) (next : ℕ) (x : Ans B) → skim_ans r ≡ p s at → r ≡ result_from_control_flow f → f ≡ Continue next
      → x ≡ k tt s next → x ≡ (p >>= k) s at
  step_skim r f next x e q t h = by_done p k s at tt next x (ap skim_ans (sym (q ∙ ap result_from_control_flow t)) ∙ e) h

  pub end_skim : (r : Result ℕ Need) (f : _) (n : _) (x : Ans B) → skim_ans r ≡ p s at → r ≡ result_from_control_flow f → f ≡ Break n
      → x ≡ need_ans {A = B} (Err n.0) → x ≡ (p >>= k) s at
  end_skim r f n x e q t h = h ∙ by_need p k s at n.0.0 (ap skim_ans (sym (q ∙ ap result_from_control_flow t)) ∙ e)

-- the last of a rule: `?` takes where it ends, or hands its need on
module _ (x : Ans Unit) (r : Result ℕ Need) (f : _) (e : skim_ans r ≡ x) (q : r ≡ result_from_control_flow f) where
  pub last_skim : (next : ℕ) → f ≡ Continue next → done tt next ≡ x
  last_skim next t = ap skim_ans (sym (q ∙ ap result_from_control_flow t)) ∙ e

  pub last_need : (n : _) (y : Ans Unit) → f ≡ Break n → y ≡ need_ans {A = Unit} (Err n.0) → y ≡ x
  last_need n y t h = h ∙ ap skim_ans (sym (q ∙ ap result_from_control_flow t)) ∙ e

pub need_skim : (r : Result ℕ Need) (n : Need) → IsErr r × IsErrAnd r (λ (m : Need). m ≡ n) → skim_ans r ≡ need_ans {A = Unit} (Err n)
need_skim (Ok g) n e = absurd (false≢true e.0)
need_skim (Err m) n e = ap (λ (m : Need). skim_ans (Err m)) e.1

either_one : (a b : Bool) → b ≡ true → either a b ≡ true
either_one true b e = refl
either_one false b e = e

-- ---- a number that is one of two, or neither
pub one_of : (n a b : ℕ) → (n ≡ a) ⊎ (n ≡ b) → either (eqb n a) (eqb n b) ≡ true
one_of n a b (inl e) = rw (eq-eqb n a e)
one_of n a b (inr e) = either_one (eqb n a) (eqb n b) (eq-eqb n b e)

pub neither : (n a b : ℕ) → ((n ≡ a) ⊎ (n ≡ b) → ⊥) → either (eqb n a) (eqb n b) ≡ false
neither n a b f = rw (ne_eqb n a (λ e. f (inl e)), ne_eqb n b (λ e. f (inr e)))

-- ---- a word by the number of bits 4 to 10; n is what a call gave for its length
module _ (big : Bool) (word : ℕ) (s : List ℕ) (at : ℕ) (x : Ans Unit) where
  pub word_bool : word / 16 % 128 ≡ 1 → x ≡ skim_bool_of (flag 2048 word) big s at → x ≡ skim_word_of big word s at
  unfolding skim_word_of skim_bits choose
  word_bool e h = rw e h

  pub word_number : (n : ℕ) → (word / 16 % 128 ≡ 2) ⊎ (word / 16 % 128 ≡ 4) → n ≡ bytes_of (word % 16)
      → x ≡ skim_number_of (flag 2048 word) (flag 4096 word) n big s at → x ≡ skim_word_of big word s at
  unfolding skim_word_of skim_bits choose
  word_number n (inl e) q h = rw (e, ← q) h
  word_number n (inr e) q h = rw (e, ← q) h

  pub word_float : (n : ℕ) → word / 16 % 128 ≡ 8 → n ≡ bytes_of (word % 16) → x ≡ skim_float_of (flag 2048 word) n big s at → x ≡ skim_word_of big word s at
  unfolding skim_word_of skim_bits choose
  word_float n e q h = rw (e, ← q) h

  pub word_string : word / 16 % 128 ≡ 32 → x ≡ skim_string_of (flag 2048 word) big s at → x ≡ skim_word_of big word s at
  unfolding skim_word_of skim_bits choose
  word_string e h = rw e h

  pub word_raw : word / 16 % 128 ≡ 64 → x ≡ skim_raw_of (flag 2048 word) big s at → x ≡ skim_word_of big word s at
  unfolding skim_word_of skim_bits choose
  word_raw e h = rw e h

module _ (big : Bool) (word : ℕ) (s : List ℕ) (at : ℕ) where
  pub word_none : (word / 16 % 128 ≡ 1 → ⊥) → ((word / 16 % 128 ≡ 2) ⊎ (word / 16 % 128 ≡ 4) → ⊥) → (word / 16 % 128 ≡ 8 → ⊥) → (word / 16 % 128 ≡ 32 → ⊥)
      → (word / 16 % 128 ≡ 64 → ⊥) → hickup 2 ≡ skim_word_of big word s at
  unfolding skim_word_of skim_bits choose refuse
  word_none f g h i j = rw (ne_eqb _ _ f, neither _ _ _ g, ne_eqb _ _ h, ne_eqb _ _ i, ne_eqb _ _ j)

-- ---- the rules of specs/Skim.antt for the argument's own
pub by_word : (big : Bool) (s : List ℕ) (at : ℕ) (x : Ans Unit) → x ≡ (number big 4 >>= (λ w. skim_word_of big w)) s at → x ≡ passed (argument big s at)
by_word big s at x e = e ∙ sym (word_same big s at) ∙ sym (skim_same big s at)

pub ruleset skim-reading = (reading, step_skim, end_skim, last_skim, last_need, need_skim, by_word, run_done, run_need, run_told, text_there, text_read, text_lacks, text_told, one_of, neither, eq-eqb, ne_eqb, word_bool, word_number, word_float, word_string, word_raw)
