-- A signal string ends at its size: its reason is Size, and its bytes are the last that the argument has.
-- Assumes nothing.
use Prim.Native.Nat.{ℕ, ◌+◌, ◌-◌}
use native.Mathlib.Omega.{arith}
use mathlib.Core.Path.{◌≡◌, refl, sym, ap, ◌∙◌, subst}
use mathlib.Core.Bool.{Bool, true, false}
use mathlib.Core.List.{List}
use lib.ListN.{length}
use lib.Ieee.{nan_bits, binary32, binary64}
use lib.Dec.{leb}
use Rattle.wire.specs.Answer.{Ans, Parser}
use Rattle.wire.specs.Answer.Ans.{done, need, hickup, broken}
use Rattle.wire.specs.Parser.{pick, here, refuse, asking, having, lacking, ret, ◌>>=◌}
use Rattle.wire.specs.Number.{number, numeric}
use Rattle.wire.specs.Run.{range, bytes}
use Rattle.wire.specs.declared.Ended.{Ended}
use Rattle.wire.specs.declared.Text.{Text}
use Rattle.wire.proofs.Step.{then_done, then_need, then_hickup, then_broken, here_is, ret_is}
use Rattle.strings.specs.Utf8.{valid_up_to_of}
use Rattle.dlt.specs.TypeInfoWord.{float_bytes, type_info_of_lem}
use Rattle.dlt.specs.declared.FloatWidth.{FloatWidth}
use Rattle.dlt.specs.declared.TypeInfo.{TypeInfo}
use Rattle.dlt.specs.declared.TypeInfoKind.{TypeInfoKind}
use Rattle.dlt.specs.declared.TypeLength.{TypeLength}
use Rattle.dlt.specs.declared.Value.{Value}
use Rattle.dlt.specs.declared.Argument.{Argument}
use Rattle.values.specs.Value.{unsigned_of, uint, signed_of, sint, float_of, fint, value}
use Rattle.values.specs.declared.Numeric.{Numeric}
use Rattle.arguments.specs.Argument.{decoded, made}
use Rattle.arguments.proofs.Placed.{Holds, Gives, then_gives}
use Rattle.signals.specs.Signal.{utf8, fixed_width, content, in_data_of, closed, whole, signal}
use Rattle.std.specs.Prelude.{None}

-- a string among the values is one that ended at its size, and its bytes end at a position
abbrev AtSize : Value → ℕ → Type 0
AtSize v b = (t : Text) → v ≡ Value.StringVal t → (t.ended ≡ Ended.Size) × (t.place.start + t.place.len ≡ b)

-- no other value is a string
abbrev strings : Value → ℕ
strings (Value.Bool v) = 0
strings (Value.U8 v) = 0
strings (Value.U16 v) = 0
strings (Value.U32 v) = 0
strings (Value.U64 v) = 0
strings (Value.U128 v w) = 0
strings (Value.I8 v) = 0
strings (Value.I16 v) = 0
strings (Value.I32 v) = 0
strings (Value.I64 v) = 0
strings (Value.I128 v w) = 0
strings (Value.F32 v) = 0
strings (Value.F64 v) = 0
strings (Value.F32NotANumber v) = 0
strings (Value.F64NotANumber v) = 0
strings (Value.StringVal v) = 1
strings (Value.Raw r) = 0

no_string : (v : Value) (b : ℕ) → strings v ≡ 0 → AtSize v b
no_string v b e t q = absurd (omega (arith, sym e ∙ ap strings q))

ret_gives : (v : Value) → strings v ≡ 0 → Gives AtSize (ret v)
ret_gives v e = record { holds = λ s at. rw (ret_is v s at) (no_string v at e) }

numeric_gives : (meaning : ℕ → Value) (big : Bool) (w : ℕ) → ((n : ℕ) → strings (meaning n) ≡ 0) → Gives AtSize (numeric meaning big w)
unfolding numeric
numeric_gives meaning big w e = then_gives AtSize (number big w) _ (λ n. ret_gives (meaning n) (e n))

unsigned_none : (w : TypeLength) (n : ℕ) → strings (unsigned_of w n) ≡ 0
unfolding unsigned_of
unsigned_none TypeLength.BitLength8 n = refl
unsigned_none TypeLength.BitLength16 n = refl
unsigned_none TypeLength.BitLength32 n = refl
unsigned_none TypeLength.BitLength64 n = refl
unsigned_none TypeLength.BitLength128 n = refl

signed_none : (w : TypeLength) (n : ℕ) → strings (signed_of w n) ≡ 0
unfolding signed_of
signed_none TypeLength.BitLength8 n = refl
signed_none TypeLength.BitLength16 n = refl
signed_none TypeLength.BitLength32 n = refl
signed_none TypeLength.BitLength64 n = refl
signed_none TypeLength.BitLength128 n = refl

either_none : (t : Bool) (v w : Value) → strings v ≡ 0 → strings w ≡ 0 → strings (pick t v w) ≡ 0
either_none true v w d e = d
either_none false v w d e = e

float_none : (w : FloatWidth) (n : ℕ) → strings (float_of w n) ≡ 0
unfolding float_of
float_none FloatWidth.Width32 n = either_none (nan_bits binary32 n) _ _ refl refl
float_none FloatWidth.Width64 n = either_none (nan_bits binary64 n) _ _ refl refl

value_gives : (big : Bool) (sort : Numeric) → Gives AtSize (value big sort)
unfolding value uint sint fint
value_gives big (Numeric.Unsigned w) = numeric_gives (unsigned_of w) big _ (unsigned_none w)
value_gives big (Numeric.Signed w) = numeric_gives (signed_of w) big _ (signed_none w)
value_gives big (Numeric.Float w) = numeric_gives (float_of w) big _ (float_none w)

fixed_gives : (w : FloatWidth) → Gives AtSize (fixed_width w)
unfolding fixed_width having asking refuse
fixed_gives w = record { holds = λ s at. by (leb (float_bytes w) (length s - at)) s at }
  where
    by : (t : Bool) (s : List ℕ) (at : ℕ) → Holds AtSize (pick t (hickup 7) (need (lacking (float_bytes w) s at)))
    by true s at = tt
    by false s at = tt

-- the string itself
utf8_gives : (n : ℕ) → Gives AtSize (utf8 n)
unfolding utf8 having asking
utf8_gives n = record { holds = λ s at. by s at (leb n (length s - at)) (leb n (valid_up_to_of n s at)) }
  where
    ends : (at : ℕ) → AtSize (Value.StringVal (record { place = range at n; ended = Ended.Size })) (at + n)
    ends at t e =
        let q : record { place = range at n; ended = Ended.Size } ≡ t = cc in
        subst (λ (x : Text). (x.ended ≡ Ended.Size) × (x.place.start + x.place.len ≡ at + n)) q (refl, refl)

    by : (s : List ℕ) (at : ℕ) (t u : Bool) → Holds AtSize (pick t (pick u (done (Value.StringVal (record { place = range at n; ended = Ended.Size })) (at + n)) (hickup 6)) (need (lacking n s at)))
    by s at true true = ends at
    by s at true false = tt
    by s at false u = tt

content_gives : (big : Bool) (k : TypeInfoKind) → Gives AtSize (content big k)
unfolding content
content_gives big TypeInfoKind.StringType = then_gives AtSize (number big 2) _ (λ n. utf8_gives n)
content_gives big TypeInfoKind.Raw = then_gives AtSize (number big 2) _ (λ n. then_gives AtSize (bytes n) _ (λ r. ret_gives (Value.Raw r) refl))
content_gives big TypeInfoKind.Bool = then_gives AtSize (number true 1) _ (λ n. ret_gives (Value.Bool n) refl)
content_gives big (TypeInfoKind.Float w) = value_gives big (Numeric.Float w)
content_gives big (TypeInfoKind.Signed w) = value_gives big (Numeric.Signed w)
content_gives big (TypeInfoKind.SignedFixedPoint w) = fixed_gives w
content_gives big (TypeInfoKind.Unsigned w) = value_gives big (Numeric.Unsigned w)
content_gives big (TypeInfoKind.UnsignedFixedPoint w) = fixed_gives w

-- ---- the argument has the value, and ends where it ends
abbrev ArgumentAtSize : Argument → ℕ → Type 0
ArgumentAtSize a b = AtSize a.value b

module _ (big : Bool) (info : TypeInfo) (start : ℕ) where
  made_gives : (v : Value) (s : List ℕ) (at : ℕ) → AtSize v at → Holds ArgumentAtSize (made start info None None None v s at)
  made_gives v s at h = rw (then_done here _ s at (here_is s at), ret_is _ s at) h

  behind_gives : Gives ArgumentAtSize (content big info.kind >>= (λ v. made start info None None None v))
  behind_gives = record { holds = λ s at. go s at (content big info.kind s at) refl ((content_gives big info.kind).holds s at) }
    where
      go : (s : List ℕ) (at : ℕ) (x : Ans Value) → content big info.kind s at ≡ x → Holds AtSize (content big info.kind s at)
          → Holds ArgumentAtSize ((content big info.kind >>= (λ v. made start info None None None v)) s at)
      go s at (done v b) e h = rw (then_done (content big info.kind) _ s at e) (made_gives v s b (subst (Holds AtSize) e h))
      go s at (need n) e h = rw (then_need (content big info.kind) _ s at e) tt
      go s at (hickup r) e h = rw (then_hickup (content big info.kind) _ s at e) tt
      go s at broken e h = rw (then_broken (content big info.kind) _ s at e) tt

whole_gives : (p : Parser Argument) → Gives ArgumentAtSize p → Gives ArgumentAtSize (whole p)
unfolding whole
whole_gives p g = record { holds = λ s at. by (p s at) (g.holds s at) }
  where
    by : (x : Ans Argument) → Holds ArgumentAtSize x → Holds ArgumentAtSize (closed x)
    by (done a b) h = h
    by (need n) h = tt
    by (hickup r) h = tt
    by broken h = tt

signal_gives : (big : Bool) (word : ℕ) → Gives ArgumentAtSize (signal big word)
unfolding signal in_data_of
signal_gives big word = then_gives ArgumentAtSize (decoded (type_info_of_lem word)) _ (λ info. whole_gives _ (then_gives ArgumentAtSize here _ (λ start. behind_gives big info start)))

pub ends_at_its_size : (big : Bool) (word : ℕ) (s : List ℕ) (at : ℕ) (a : Argument) (b : ℕ) (t : Text) → signal big word s at ≡ done a b → a.value ≡ Value.StringVal t
    → (t.ended ≡ Ended.Size) × (t.place.start + t.place.len ≡ b)
ends_at_its_size big word s at a b t e q = subst (Holds ArgumentAtSize) e ((signal_gives big word).holds s at) t q
