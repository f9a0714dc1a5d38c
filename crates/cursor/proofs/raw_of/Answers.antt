-- `cursor::raw_of` meets its contract: a value that is none of raw is one of the others.
use mathlib.Core.Path.{◌≡◌, refl}
use Rattle.dlt.specs.declared.Value.{Value}
use Rattle.cursor.specs.Raw.{raw_of_lem}
use Rattle.wire.specs.declared.Range.{Range}
use Rattle.cursor.proofs.raw_of.Goals as goal
use Rattle.std.specs.Prelude.{None}

others : (v : Value) → ((x : Range) → v ≡ Value.Raw x → ⊥) → None ≡ raw_of_lem v
unfolding raw_of_lem
others (Value.Bool v) h = refl
others (Value.U8 v) h = refl
others (Value.U16 v) h = refl
others (Value.U32 v) h = refl
others (Value.U64 v) h = refl
others (Value.U128 v w) h = refl
others (Value.I8 v) h = refl
others (Value.I16 v) h = refl
others (Value.I32 v) h = refl
others (Value.I64 v) h = refl
others (Value.I128 v w) h = refl
others (Value.F32 v) h = refl
others (Value.F64 v) h = refl
others (Value.F32NotANumber v) h = refl
others (Value.F64NotANumber v) h = refl
others (Value.StringVal v) h = refl
others (Value.Raw r) h = absurd (h r refl)

pub returns-in-Raw : goal.returns-in-Raw
unfolding raw_of_lem
returns-in-Raw c = rw c.in-Raw.is

pub returns-in_default : goal.returns-in_default
returns-in_default c = others c.args.v c.in_default.not-Raw
