-- The lemmas of the payload's rules, for `search` (wire's Reading.antt says how).
use Prim.Native.Nat.{ℕ}
use mathlib.Core.Path.{◌≡◌, ap}
use mathlib.Core.Bool.{Bool, true, false}
use mathlib.Core.List.{List}
use Rattle.wire.specs.Answer.{Ans}
use Rattle.wire.specs.declared.Range.{Range}
use Rattle.wire.proofs.Reading.{reading}
use Rattle.messageinfo.specs.MessageInfo.{control_of}
use Rattle.messageinfo.specs.declared.ControlType.{ControlType}
use Rattle.messageinfo.specs.declared.MessageType.{MessageType}
use Rattle.cursor.specs.Cursor.{cursor}
use Rattle.cursor.specs.Raw.{raw_cursor}
use Rattle.payload.specs.Payload.{is_verbose_of, count_of, control_type_of, network_type_of, is_control_of, is_network_of, list_of, verbose}
use Rattle.payload.specs.declared.PayloadContent.{PayloadContent}
use Rattle.std.specs.Prelude.{Option}
use Rattle.messageinfo.specs.declared.ExtendedHeader.{ExtendedHeader}

-- ---- the variant that was matched, e', for the enum's value e
module _ (e e' : Option ExtendedHeader) (q : e ≡ e') where
  pub verbose_at : (x : Bool) → x ≡ is_verbose_of e' → x ≡ is_verbose_of e
  verbose_at x h = rw q h

  pub count_at : (x : ℕ) → x ≡ count_of e' → x ≡ count_of e
  count_at x h = rw q h

  pub control_at : (x : Bool) → x ≡ is_control_of e' → x ≡ is_control_of e
  control_at x h = rw q h

  pub network_at : (x : Bool) → x ≡ is_network_of e' → x ≡ is_network_of e
  network_at x h = rw q h

module _ (e e' : MessageType) (q : e ≡ e') (x : Bool) where
  pub control_type_at : x ≡ control_type_of e' → x ≡ control_type_of e
  control_type_at h = rw q h

  pub network_type_at : x ≡ network_type_of e' → x ≡ network_type_of e
  network_type_at h = rw q h

module _ (b : Bool) (at left : ℕ) (big : Bool) where
  pub list_network : b ≡ true → PayloadContent.NetworkTrace (raw_cursor at left big) ≡ list_of b at left big
  unfolding list_of
  list_network e = rw e

  pub list_verbose : b ≡ false → PayloadContent.Verbose (cursor at left big) ≡ list_of b at left big
  unfolding list_of
  list_verbose e = rw e

-- ---- what calls gave
pub control_made : (n : ℕ) (k : ControlType) (r : Range) → k ≡ control_of n → PayloadContent.ControlMsg k r ≡ PayloadContent.ControlMsg (control_of n) r
control_made n k r e = ap (λ (j : ControlType). PayloadContent.ControlMsg j r) e

pub verbose_of : (big : Bool) (e : Option ExtendedHeader) (n : ℕ) (b : Bool) (s : List ℕ) (at : ℕ) (x : Ans PayloadContent) → n ≡ count_of e → b ≡ is_network_of e
    → x ≡ verbose big n b s at → x ≡ verbose big (count_of e) (is_network_of e) s at
verbose_of big e n b s at x d f h = rw (← d, ← f) h

pub ruleset tables = (verbose_at, count_at, control_at, network_at, control_type_at, network_type_at, list_network, list_verbose)

pub ruleset payload-reading = (reading, control_made, verbose_of)
