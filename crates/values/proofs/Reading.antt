-- What `search` is handed for the functions of this crate and for those that call them (wire's Reading.antt says how).
use Prim.Native.Nat.{ℕ}
use mathlib.Core.Path.{◌≡◌, refl, sym, ap, ◌∙◌, fun_ext}
use mathlib.Core.Bool.{Bool, true, false}
use mathlib.Core.List.{List}
use lib.Ieee.{Float, binary32, binary64, of_bits}
use lib.IntN.{ℤ}
use Rattle.wire.specs.Answer.{Ans, Parser}
use Rattle.wire.specs.Answer.Ans.{done}
use Rattle.wire.specs.Parser.{◌>>=◌, fixed, having, ret}
use Rattle.wire.specs.Number.{number, number_of, numeric, halves_of}
use Rattle.wire.proofs.Digits.{numeric_via, numeric_wants}
use Rattle.wire.proofs.Reading.{step_need, end_need, took, lacked, need_need, reading}
use Rattle.wire.specs.declared.Got.{Got}
use Rattle.wire.specs.declared.Need.{Need}
use Rattle.wire.specs.declared.Wide.{Wide}
use Rattle.signed.specs.declared.SignedWide.{SignedWide}
use Rattle.std.specs.Prelude.{Result, Err}
use Rattle.std.specs.Result.{result_from_control_flow}
use Rattle.std.proofs.Common.{Continue, Break}
use Rattle.wire.proofs.Step.{then_done, then_need}
use Rattle.signed.specs.Twos.{twos, signed, signed_halves}
use Rattle.signed.proofs.Complement.{handed_on}
use Rattle.reals.specs.Real.{real32_of, real64_of, float32, float64}
use Rattle.reals.specs.declared.Real32.{Real32}
use Rattle.reals.specs.declared.Real64.{Real64}
use Rattle.reals.proofs.Patterns.{through}
use Rattle.dlt.specs.declared.TypeLength.{TypeLength}
use Rattle.dlt.specs.declared.FloatWidth.{FloatWidth}
use Rattle.dlt.specs.declared.Value.{Value}
use Rattle.dlt.specs.declared.FixedPointValue.{FixedPointValue}
use Rattle.dlt.specs.declared.FixedPoint.{FixedPoint}
use Rattle.values.specs.Value.{unsigned_of, uint, signed_of, sint, float_of, fint, value, carry32, carry64, offset_of, offset}
use Rattle.values.specs.declared.Numeric.{Numeric}
use Rattle.wire.specs.Answers.{need_ans}

-- ---- one byte has no order
one_byte : (big : Bool) (s : List ℕ) (at : ℕ) → number true 1 s at ≡ number big 1 s at
unfolding number number_of fixed having
one_byte true s at = refl
one_byte false s at = refl

module _ {B : Type 0} (big : Bool) (k : ℕ → Parser B) (s : List ℕ) (at : ℕ) (r : Result (Got ℕ) Need) (c : _) (e : need_ans r ≡ number true 1 s at) (t : r ≡ result_from_control_flow c) where
  pub step_byte : (g : Got ℕ) (x : Ans B) → c ≡ Continue g → x ≡ k g.v s g.next → x ≡ (number big 1 >>= k) s at
  step_byte g x q f = step_need (number big 1) k s at r c g x (e ∙ one_byte big s at) t q f

  pub need_byte : (n : _) (x : Ans B) → c ≡ Break n → x ≡ need_ans {A = B} (Err n.0) → x ≡ (number big 1 >>= k) s at
  need_byte n x q f = end_need (number big 1) k s at r c n x (e ∙ one_byte big s at) t q f

signed_byte : (big : Bool) (s : List ℕ) (at : ℕ) → signed true 1 s at ≡ numeric (twos 8) big 1 s at
unfolding signed numeric ◌>>=◌
signed_byte big s at = rw (one_byte big s at)

-- ---- unsigned: the variant that was matched, w', for the width w
module _ (big : Bool) (s : List ℕ) (at : ℕ) where
  pub uint_at : (w w' : TypeLength) (x : Ans Value) → w ≡ w' → x ≡ uint big w' s at → x ≡ uint big w s at
  uint_at w w' x q f = rw q f

  module _ (r : Result (Got Wide) Need) (c : _) (e : need_ans r ≡ numeric halves_of big 16 s at) (t : r ≡ result_from_control_flow c) where
    pub wide_unsigned : (g : Got Wide) → c ≡ Continue g → done (Value.U128 g.v.high g.v.low) g.next ≡ uint big TypeLength.BitLength128 s at
    unfolding uint unsigned_of halves_of
    wide_unsigned g q = numeric_via halves_of (λ v. Value.U128 v.high v.low) big 16 s at (took _ r c e t g q)

    pub wide_unsigned_needs : (n : _) (x : Ans Value) → c ≡ Break n → x ≡ need_ans {A = Value} (Err n.0) → x ≡ uint big TypeLength.BitLength128 s at
    unfolding uint unsigned_of halves_of
    wide_unsigned_needs n x q h = h ∙ numeric_wants halves_of (λ v. Value.U128 v.high v.low) big 16 s at (lacked _ r c e t n q)

-- ---- signed, of each width
module _ (big : Bool) (s : List ℕ) (at : ℕ) where
  module _ (r : Result (Got ℤ) Need) (c : _) (e : need_ans r ≡ signed true 1 s at) (t : r ≡ result_from_control_flow c) (w : TypeLength) (p : w ≡ TypeLength.BitLength8) where
    pub signed8_is : (g : Got ℤ) (v : ℤ) → c ≡ Continue g → v ≡ g.v → done (Value.I8 v) g.next ≡ sint big w s at
    unfolding sint signed_of
    signed8_is g v q f = rw (p, f) (numeric_via (twos 8) Value.I8 big 1 s at (took _ r c (e ∙ signed_byte big s at) t g q))

    pub signed8_needs : (n : _) (x : Ans Value) → c ≡ Break n → x ≡ need_ans {A = Value} (Err n.0) → x ≡ sint big w s at
    unfolding sint signed_of
    signed8_needs n x q h = rw (p, h) (numeric_wants (twos 8) Value.I8 big 1 s at (lacked _ r c (e ∙ signed_byte big s at) t n q))

  module _ (r : Result (Got ℤ) Need) (c : _) (e : need_ans r ≡ signed big 2 s at) (t : r ≡ result_from_control_flow c) (w : TypeLength) (p : w ≡ TypeLength.BitLength16) where
    pub signed16_is : (g : Got ℤ) (v : ℤ) → c ≡ Continue g → v ≡ g.v → done (Value.I16 v) g.next ≡ sint big w s at
    unfolding sint signed_of signed
    signed16_is g v q f = rw (p, f) (numeric_via (twos 16) Value.I16 big 2 s at (took _ r c e t g q))

    pub signed16_needs : (n : _) (x : Ans Value) → c ≡ Break n → x ≡ need_ans {A = Value} (Err n.0) → x ≡ sint big w s at
    unfolding sint signed_of signed
    signed16_needs n x q h = rw (p, h) (numeric_wants (twos 16) Value.I16 big 2 s at (lacked _ r c e t n q))

  module _ (r : Result (Got ℤ) Need) (c : _) (e : need_ans r ≡ signed big 4 s at) (t : r ≡ result_from_control_flow c) (w : TypeLength) (p : w ≡ TypeLength.BitLength32) where
    pub signed32_is : (g : Got ℤ) (v : ℤ) → c ≡ Continue g → v ≡ g.v → done (Value.I32 v) g.next ≡ sint big w s at
    unfolding sint signed_of signed
    signed32_is g v q f = rw (p, f) (numeric_via (twos 32) Value.I32 big 4 s at (took _ r c e t g q))

    pub signed32_needs : (n : _) (x : Ans Value) → c ≡ Break n → x ≡ need_ans {A = Value} (Err n.0) → x ≡ sint big w s at
    unfolding sint signed_of signed
    signed32_needs n x q h = rw (p, h) (numeric_wants (twos 32) Value.I32 big 4 s at (lacked _ r c e t n q))

  module _ (r : Result (Got ℤ) Need) (c : _) (e : need_ans r ≡ signed big 8 s at) (t : r ≡ result_from_control_flow c) (w : TypeLength) (p : w ≡ TypeLength.BitLength64) where
    pub signed64_is : (g : Got ℤ) (v : ℤ) → c ≡ Continue g → v ≡ g.v → done (Value.I64 v) g.next ≡ sint big w s at
    unfolding sint signed_of signed
    signed64_is g v q f = rw (p, f) (numeric_via (twos 64) Value.I64 big 8 s at (took _ r c e t g q))

    pub signed64_needs : (n : _) (x : Ans Value) → c ≡ Break n → x ≡ need_ans {A = Value} (Err n.0) → x ≡ sint big w s at
    unfolding sint signed_of signed
    signed64_needs n x q h = rw (p, h) (numeric_wants (twos 64) Value.I64 big 8 s at (lacked _ r c e t n q))

  module _ (r : Result (Got SignedWide) Need) (c : _) (e : need_ans r ≡ numeric signed_halves big 16 s at) (t : r ≡ result_from_control_flow c) where
    pub wide_signed : (g : Got SignedWide) (v : ℤ) → c ≡ Continue g → v ≡ g.v.high → done (Value.I128 v g.v.low) g.next ≡ sint big TypeLength.BitLength128 s at
    unfolding sint signed_of signed_halves
    wide_signed g v q f = rw f (numeric_via signed_halves (λ v. Value.I128 v.high v.low) big 16 s at (took _ r c e t g q))

    pub wide_signed_needs : (n : _) (x : Ans Value) → c ≡ Break n → x ≡ need_ans {A = Value} (Err n.0) → x ≡ sint big TypeLength.BitLength128 s at
    unfolding sint signed_of signed_halves
    wide_signed_needs n x q h = h ∙ numeric_wants signed_halves (λ v. Value.I128 v.high v.low) big 16 s at (lacked _ r c e t n q)

  pub sint_at : (w w' : TypeLength) (x : Ans Value) → w ≡ w' → x ≡ sint big w' s at → x ≡ sint big w s at
  sint_at w w' x q f = rw q f

-- ---- an integer or a float: the variant that was matched, e', for the sort e
pub value_at : (big : Bool) (s : List ℕ) (at : ℕ) (e e' : Numeric) (x : Ans Value) → e ≡ e' → x ≡ value big e' s at → x ≡ value big e s at
value_at big s at e e' x q f = rw q f

-- ---- floats: v is what a call made of the real that was read
pub carry32_at : (r r' : Real32) (x : Value) → r ≡ r' → x ≡ carry32 r' → x ≡ carry32 r
carry32_at r r' x q f = rw q f

pub carry64_at : (r r' : Real64) (x : Value) → r ≡ r' → x ≡ carry64 r' → x ≡ carry64 r
carry64_at r r' x q f = rw q f

module _ (big : Bool) (s : List ℕ) (at : ℕ) where
  carried32 : (n : ℕ) → carry32 (real32_of n) ≡ float_of FloatWidth.Width32 n
  unfolding float_of
  carried32 n = through carry32 binary32 Real32.Number Real32.NotANumber n

  module _ (r : Result (Got Real32) Need) (c : _) (e : need_ans r ≡ float32 big s at) (t : r ≡ result_from_control_flow c) (w : FloatWidth) (p : w ≡ FloatWidth.Width32) where
    pub float32_is : (g : Got Real32) (v : Value) → c ≡ Continue g → v ≡ carry32 g.v → done v g.next ≡ fint big w s at
    unfolding fint float32
    float32_is g v q f = rw (p, f) (numeric_via real32_of carry32 big 4 s at (took _ r c e t g q) ∙ ap (λ (m : ℕ → Value). numeric m big 4 s at) (fun_ext carried32))

    pub float32_needs : (n : _) (x : Ans Value) → c ≡ Break n → x ≡ need_ans {A = Value} (Err n.0) → x ≡ fint big w s at
    unfolding fint float32
    float32_needs n x q h = rw (p, h) (numeric_wants real32_of carry32 big 4 s at (lacked _ r c e t n q) ∙ ap (λ (m : ℕ → Value). numeric m big 4 s at) (fun_ext carried32))

  carried64 : (n : ℕ) → carry64 (real64_of n) ≡ float_of FloatWidth.Width64 n
  unfolding float_of
  carried64 n = through carry64 binary64 Real64.Number Real64.NotANumber n

  module _ (r : Result (Got Real64) Need) (c : _) (e : need_ans r ≡ float64 big s at) (t : r ≡ result_from_control_flow c) (w : FloatWidth) (p : w ≡ FloatWidth.Width64) where
    pub float64_is : (g : Got Real64) (v : Value) → c ≡ Continue g → v ≡ carry64 g.v → done v g.next ≡ fint big w s at
    unfolding fint float64
    float64_is g v q f = rw (p, f) (numeric_via real64_of carry64 big 8 s at (took _ r c e t g q) ∙ ap (λ (m : ℕ → Value). numeric m big 8 s at) (fun_ext carried64))

    pub float64_needs : (n : _) (x : Ans Value) → c ≡ Break n → x ≡ need_ans {A = Value} (Err n.0) → x ≡ fint big w s at
    unfolding fint float64
    float64_needs n x q h = rw (p, h) (numeric_wants real64_of carry64 big 8 s at (lacked _ r c e t n q) ∙ ap (λ (m : ℕ → Value). numeric m big 8 s at) (fun_ext carried64))

-- ---- an offset, and what follows it
module _ {B : Type 0} (big : Bool) (k : FixedPointValue → Parser B) (s : List ℕ) (at : ℕ) (w : FloatWidth) where
  module _ (p : w ≡ FloatWidth.Width32) (r : Result (Got ℤ) Need) (c : _) (e : need_ans r ≡ signed big 4 s at) (t : r ≡ result_from_control_flow c) where
    pub step_offset32 : (g : Got ℤ) (x : Ans B) → c ≡ Continue g → x ≡ k (FixedPointValue.I32 g.v) s g.next → x ≡ (offset big w >>= k) s at
    unfolding offset offset_of signed
    step_offset32 g x q f = rw p (f ∙ sym (then_done _ k s at (sym (numeric_via (twos 32) FixedPointValue.I32 big 4 s at (took _ r c e t g q)))))

    pub need_offset32 : (n : _) (x : Ans B) → c ≡ Break n → x ≡ need_ans {A = B} (Err n.0) → x ≡ (offset big w >>= k) s at
    unfolding offset offset_of signed
    need_offset32 n x q h = rw (p, h) (sym (then_need _ k s at (sym (numeric_wants (twos 32) FixedPointValue.I32 big 4 s at (lacked _ r c e t n q)))))

  module _ (p : w ≡ FloatWidth.Width64) (r : Result (Got ℤ) Need) (c : _) (e : need_ans r ≡ signed big 8 s at) (t : r ≡ result_from_control_flow c) where
    pub step_offset64 : (g : Got ℤ) (x : Ans B) → c ≡ Continue g → x ≡ k (FixedPointValue.I64 g.v) s g.next → x ≡ (offset big w >>= k) s at
    unfolding offset offset_of signed
    step_offset64 g x q f = rw p (f ∙ sym (then_done _ k s at (sym (numeric_via (twos 64) FixedPointValue.I64 big 8 s at (took _ r c e t g q)))))

    pub need_offset64 : (n : _) (x : Ans B) → c ≡ Break n → x ≡ need_ans {A = B} (Err n.0) → x ≡ (offset big w >>= k) s at
    unfolding offset offset_of signed
    need_offset64 n x q h = rw (p, h) (sym (then_need _ k s at (sym (numeric_wants (twos 64) FixedPointValue.I64 big 8 s at (lacked _ r c e t n q)))))

-- the record, of what calls gave
pub offset32 : (z y : ℤ) → z ≡ y → FixedPointValue.I32 z ≡ FixedPointValue.I32 y
offset32 z y e = rw e

pub offset64 : (z y : ℤ) → z ≡ y → FixedPointValue.I64 z ≡ FixedPointValue.I64 y
offset64 z y e = rw e

abbrev point_of : ℕ → Float → FixedPointValue → FixedPoint
point_of n x o = record { quantization = x; pattern = n; offset = o }

pub point_made : (s : List ℕ) (at n : ℕ) (x : Float) (o o' : FixedPointValue) → x ≡ of_bits binary32 n → o ≡ o'
    → done (point_of n x o) at ≡ ret (point_of n (of_bits binary32 n) o') s at
unfolding ret
point_made s at n x o o' e f = rw (e, f)

pub ruleset signs = (need_need, handed_on, sint_at, signed8_is, signed8_needs, signed16_is, signed16_needs, signed32_is, signed32_needs, signed64_is, signed64_needs, wide_signed, wide_signed_needs)

pub ruleset floats = (need_need, carry32_at, carry64_at, float32_is, float32_needs, float64_is, float64_needs)

pub ruleset points = (reading, handed_on, step_offset32, need_offset32, step_offset64, need_offset64, offset32, offset64, point_made)

pub ruleset uints = (reading, uint_at, step_byte, need_byte, wide_unsigned, wide_unsigned_needs)

pub ruleset values-reading = (reading, value_at)
