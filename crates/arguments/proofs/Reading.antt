-- The lemmas of this crate's rules by clauses, for `search` (wire's Reading.antt says how).
use Prim.Native.Nat.{ℕ}
use mathlib.Core.Path.{◌≡◌, sym, ap, ◌∙◌}
use mathlib.Core.Bool.{Bool}
use mathlib.Core.List.{List}
use Rattle.wire.specs.Answer.{Ans}
use Rattle.wire.specs.Answer.Ans.{done, hickup}
use Rattle.wire.proofs.Reading.{reading}
use Rattle.wire.specs.Answers.{stop_ans}
use Rattle.wire.specs.declared.Got.{Got}
use Rattle.wire.specs.declared.Stop.{Stop}
use Rattle.dlt.specs.contracts.StopFromNoTypeInfo as StopFromNoTypeInfo
use Rattle.std.specs.Prelude.{IsErr, IsErrAnd, Result, Ok, Err}
use Rattle.std.specs.Result.{result_from_control_flow}
use Rattle.std.proofs.Common.{Continue, Break}
use Rattle.std.proofs.lemmas.Bool.{false≢true}
use Rattle.dlt.specs.declared.TypeLength.{TypeLength}
use Rattle.dlt.specs.declared.FloatWidth.{FloatWidth}
use Rattle.dlt.specs.declared.TypeInfoKind.{TypeInfoKind}
use Rattle.dlt.specs.declared.TypeInfo.{TypeInfo}
use Rattle.dlt.specs.declared.NoTypeInfo.{NoTypeInfo}
use Rattle.dlt.specs.declared.Argument.{Argument}
use Rattle.values.specs.declared.Numeric.{Numeric}
use Rattle.values.proofs.Reading.{values-reading}
use Rattle.arguments.specs.Argument.{decoded, scaled, kinded}

-- ---- a word that was decoded: d is what a call gave for w
module _ (s : List ℕ) (at : ℕ) (d w : Result TypeInfo NoTypeInfo) (e : d ≡ w) (c : _) (t : d ≡ result_from_control_flow c) where
  pub accepted_is : (i : TypeInfo) → c ≡ Continue i → done i at ≡ decoded w s at
  unfolding decoded
  accepted_is i q = rw (sym e ∙ t ∙ ap result_from_control_flow q)

  pub refused_is : (n : _) (x : Ans TypeInfo) → c ≡ Break n → x ≡ hickup 2 → x ≡ decoded w s at
  unfolding decoded
  refused_is n x q h = rw (sym e ∙ t ∙ ap result_from_control_flow q) h

-- what `?` hands on of it
pub no_type_stops : (r : Result (Got TypeInfo) Stop) (n : NoTypeInfo) → IsErr r × IsErrAnd r ((StopFromNoTypeInfo.TheImpl.from_gives-value).it n) → stop_ans r ≡ hickup 2
no_type_stops (Ok g) n e = absurd (false≢true e.0)
no_type_stops (Err m) n e = ap (λ (m : Stop). stop_ans {A = TypeInfo} (Err m)) e.1

-- ---- rules by clauses: the variant that was matched, e', for the enum's value e
module _ (big : Bool) (start : ℕ) (s : List ℕ) (at : ℕ) (x : Ans Argument) (info : TypeInfo) where
  pub kinded_at : (e e' : TypeInfoKind) → e ≡ e' → x ≡ kinded big start info e' s at → x ≡ kinded big start info e s at
  kinded_at e e' q f = rw q f

  -- w is what a call gave for v
  module _ (width : FloatWidth) (w v : TypeLength) (e : w ≡ v) where
    pub scaled_signed : x ≡ scaled big start info width (Numeric.Signed w) s at → x ≡ scaled big start info width (Numeric.Signed v) s at
    scaled_signed f = rw (← e) f

    pub scaled_unsigned : x ≡ scaled big start info width (Numeric.Unsigned w) s at → x ≡ scaled big start info width (Numeric.Unsigned v) s at
    scaled_unsigned f = rw (← e) f

pub ruleset arguments-reading = (values-reading, reading, accepted_is, refused_is, no_type_stops, kinded_at, scaled_signed, scaled_unsigned)
