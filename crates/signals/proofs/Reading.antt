-- The lemmas of this crate's rules by clauses, for `search` (wire's Reading.antt says how).
use Prim.Native.Nat.{ℕ, ◌+◌, ◌-◌, ◌≤◌, ◌<◌}
use native.Mathlib.Omega.{arith}
use mathlib.Core.Path.{◌≡◌, refl, sym, ap, ◌∙◌}
use mathlib.Core.Bool.{Bool}
use mathlib.Core.List.{List}
use lib.ListN.{length}
use lib.Dec.{ltb}
use borrow.Author.Tests.{le-leb, lt-leb, lt-ltb, le-ltb}
use Rattle.wire.specs.Answer.{Ans, Parser}
use Rattle.wire.specs.Answer.Ans.{done, need, hickup}
use Rattle.wire.specs.Parser.{refuse, choose}
use Rattle.wire.specs.Run.{range}
use Rattle.wire.specs.declared.Ended.{Ended}
use Rattle.wire.proofs.Step.{told, then_done, then_hickup, having_done, having_need, choose_true, choose_false}
use Rattle.wire.specs.declared.Got.{Got}
use Rattle.wire.specs.declared.Stop.{Stop}
use Rattle.wire.specs.declared.Reason.{Reason}
use Rattle.dlt.specs.contracts.ReasonFromNoTypeInfo as ReasonFromNoTypeInfo
use Rattle.std.specs.Prelude.{IsErr, IsErrAnd, Result, Ok, Err}
use Rattle.std.specs.Result.{result_from_control_flow}
use Rattle.std.proofs.Common.{Continue, Break}
use Rattle.std.proofs.lemmas.Bool.{false≢true}
use Rattle.strings.specs.Utf8.{valid_up_to_of, least}
use Rattle.dlt.specs.TypeInfoWord.{float_bytes, type_info_of_lem}
use Rattle.dlt.specs.declared.FloatWidth.{FloatWidth}
use Rattle.dlt.specs.declared.TypeInfoKind.{TypeInfoKind}
use Rattle.dlt.specs.declared.TypeInfo.{TypeInfo}
use Rattle.dlt.specs.declared.NoTypeInfo.{NoTypeInfo}
use Rattle.dlt.specs.declared.Value.{Value}
use Rattle.dlt.specs.declared.Argument.{Argument}
use Rattle.arguments.specs.Argument.{decoded}
use Rattle.arguments.proofs.Reading.{accepted_is, refused_is, arguments-reading}
use Rattle.signals.specs.Signals.{construct_ans}
use Rattle.signals.specs.declared.Constructed.{Constructed}
use Rattle.signals.specs.Signal.{utf8, fixed_width, content, in_data_of, closed, whole, signal}
use Rattle.wire.specs.Answers.{stop_ans, reason_ans, reason_number}

-- ---- a string whose content must be UTF-8: l is what is left, v what `valid_up_to` found
module _ (n : ℕ) (s : List ℕ) (at l : ℕ) (is-left : l ≡ length s - at) where
  valid_is : (v : ℕ) → v ≡ valid_up_to_of (least n (length s - at)) s at → n ≤ l → v ≡ valid_up_to_of n s at
  valid_is v e h = rw (le-leb n (length s - at) (omega arith)) at e

  pub utf8_done : (v : ℕ) → v ≡ valid_up_to_of (least n (length s - at)) s at → n ≤ l → n ≤ v → done (Value.StringVal (record { place = range at n; ended = Ended.Size })) (at + n) ≡ utf8 n s at
  unfolding utf8
  utf8_done v e h g =
      let k : n ≤ valid_up_to_of n s at = rw (← valid_is v e h) g in
      sym (having_done n _ s at (omega arith) ∙ rw (le-leb n (valid_up_to_of n s at) k))

  pub utf8_bad : (v : ℕ) → v ≡ valid_up_to_of (least n (length s - at)) s at → n ≤ l → v < n → hickup 6 ≡ utf8 n s at
  unfolding utf8
  utf8_bad v e h g =
      let k : valid_up_to_of n s at < n = rw (← valid_is v e h) g in
      sym (having_done n _ s at (omega arith) ∙ rw (lt-leb n (valid_up_to_of n s at) k))

  pub utf8_need : l < n → need (n - l) ≡ utf8 n s at
  unfolding utf8
  utf8_need h = ap (λ (k : ℕ). need (n - k)) is-left ∙ sym (having_need n _ s at (omega arith))

-- ---- a fixed-point kind: n is the width that a call gave
module _ (w : FloatWidth) (s : List ℕ) (at n l : ℕ) (d : n ≡ float_bytes w) (e : l ≡ length s - at) where
  pub fixed_refused : n ≤ l → hickup 7 ≡ fixed_width w s at
  unfolding fixed_width refuse
  fixed_refused h = sym (having_done (float_bytes w) _ s at (rw (← d) (omega arith)))

  pub fixed_need : l < n → need (n - l) ≡ fixed_width w s at
  unfolding fixed_width
  fixed_need h = rw (d, e) (sym (having_need (float_bytes w) _ s at (rw (← d) (omega arith))))

-- ---- rules by clauses: the variant that was matched, e', for the kind e
pub content_at : (big : Bool) (s : List ℕ) (at : ℕ) (x : Ans Value) (e e' : TypeInfoKind) → e ≡ e' → x ≡ content big e' s at → x ≡ content big e s at
content_at big s at x e e' q f = rw q f

-- ---- one signal: d is what a call gave for the word
module _ (big : Bool) (word : ℕ) (s : List ℕ) (at : ℕ) (d : Result TypeInfo NoTypeInfo) (e : d ≡ type_info_of_lem word) (c : _) (t : d ≡ result_from_control_flow c) where
  pub signal_refused : (n : _) (x : Ans Argument) → c ≡ Break n → x ≡ hickup 2 → x ≡ signal big word s at
  unfolding signal
  signal_refused n x q h = h ∙ sym (then_hickup _ _ s at (sym (refused_is s at d _ e c t n (hickup 2) q refl)))

  module _ (i : TypeInfo) (q : c ≡ Continue i) where
    accepted : signal big word s at ≡ closed (in_data_of big i s at)
    unfolding signal whole
    accepted = then_done (decoded (type_info_of_lem word)) _ s at (sym (accepted_is s at d _ e c t i q))

    module _ (r : Result (Got Argument) Stop) (f : stop_ans r ≡ in_data_of big i s at) where
      pub signal_done : (g : Got Argument) → r ≡ Ok g → done g.v g.next ≡ signal big word s at
      signal_done g p = sym (accepted ∙ ap closed (told stop_ans f p))

      pub signal_short : (e : Stop) (n : ℕ) → r ≡ Err e → e ≡ Stop.Need n → hickup 5 ≡ signal big word s at
      signal_short e n p z = sym (accepted ∙ ap closed (told stop_ans f (p ∙ ap Err z)))

      pub signal_hickup : (e : Stop) (m : Reason) → r ≡ Err e → e ≡ Stop.Hickup m → hickup (reason_number m) ≡ signal big word s at
      signal_hickup e m p z = sym (accepted ∙ ap closed (told stop_ans f (p ∙ ap Err z)))

-- what `?` hands on of a word that is no type
pub no_type_reason : (r : Result (Got Argument) Reason) (n : NoTypeInfo) → IsErr r × IsErrAnd r ((ReasonFromNoTypeInfo.TheImpl.from_gives-value).it n) → reason_ans r ≡ hickup 2
no_type_reason (Ok g) n e = absurd (false≢true e.0)
no_type_reason (Err m) n e = ap (λ (m : Reason). reason_ans {A = Argument} (Err m)) e.1

pub constructed_stops : (r : Result Constructed Reason) (n : Reason) → IsErr r × IsErrAnd r (λ (m : Reason). m ≡ n) → construct_ans r ≡ hickup (reason_number n)
constructed_stops (Ok g) n e = absurd (false≢true e.0)
constructed_stops (Err m) n e = ap (λ (m : Reason). construct_ans (Err m)) e.1

-- ---- a test on two numbers
module _ {A : Type 0} (p q : Parser A) (s : List ℕ) (at : ℕ) (x : Ans A) (m n : ℕ) where
  pub if_lt : m < n → x ≡ p s at → x ≡ choose (ltb m n) p q s at
  if_lt h f = f ∙ sym (choose_true p q s at (lt-ltb m n h))

  pub if_ge : n ≤ m → x ≡ q s at → x ≡ choose (ltb m n) p q s at
  if_ge h f = f ∙ sym (choose_false p q s at (le-ltb m n h))

pub ruleset contents = (arguments-reading, content_at, utf8_done, utf8_bad, utf8_need, fixed_refused, fixed_need)

pub ruleset signals-reading = (arguments-reading, if_lt, if_ge)

pub ruleset one-signal = (no_type_reason, signal_refused, signal_done, signal_short, signal_hickup)
