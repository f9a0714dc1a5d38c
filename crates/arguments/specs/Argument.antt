-- One argument of a verbose payload: document 01, type info, and Hickup reason 2.
use Rattle.std.specs.Prelude.{ℕ, Bool, true, false, Result, Option, Some, None}
use Rattle.wire.specs.Answer.{Parser}
use Rattle.wire.specs.Parser.{ret, here, choose, ◌>>=◌}
use Rattle.wire.specs.Number.{number}
use Rattle.wire.specs.Run.{bytes}
use Rattle.strings.specs.Text.{text}
use Rattle.dlt.specs.TypeInfoWord.{wide_length, type_info_of_lem, decoded_ans}
use Rattle.dlt.specs.declared.FloatWidth.{FloatWidth}
use Rattle.dlt.specs.declared.TypeInfoKind.{TypeInfoKind}
use Rattle.dlt.specs.declared.TypeInfo.{TypeInfo}
use Rattle.dlt.specs.declared.NoTypeInfo.{NoTypeInfo}
use Rattle.dlt.specs.declared.Value.{Value}
use Rattle.dlt.specs.declared.Argument.{Argument}
use Rattle.values.specs.Value.{value, fixed_point_of}
use Rattle.values.specs.declared.Numeric.{Numeric}
use Rattle.names.specs.Names.{maybe_name, maybe_names}
use Rattle.dlt.specs.declared.FixedPoint.{FixedPoint}
use Rattle.wire.specs.declared.Text.{Text}

-- a type info, or Hickup 2
unfoldable pub decoded : Result TypeInfo NoTypeInfo → Parser TypeInfo
decoded d s at = decoded_ans d at

-- the type info word, in payload byte order
unfoldable pub type_info_of : Bool → Parser TypeInfo
type_info_of big = do
  word ← number big 4
  decoded (type_info_of_lem word)

-- the record, whose end is the position behind the value
abbrev pub made : ℕ → TypeInfo → Option Text → Option Text → Option FixedPoint → Value → Parser Argument
made start info name unit point value = do
  end ← here
  ret (record { type_info = info; name = name; unit = unit; fixed_point = point; value = value; start = start; end = end })

-- integers and floats have name size, unit size, name, unit before the value
unfoldable pub plain : Bool → ℕ → TypeInfo → Numeric → Parser Argument
plain big start info sort = do
  names ← maybe_names info.has_variable_info big
  v ← value big sort
  made start info names.name names.unit None v

-- fixed point: quantization and offset come between names and value
unfoldable pub scaled : Bool → ℕ → TypeInfo → FloatWidth → Numeric → Parser Argument
scaled big start info width sort = do
  names ← maybe_names info.has_variable_info big
  point ← fixed_point_of big width
  v ← value big sort
  made start info names.name names.unit (Some point) v

-- bool has name size and name
unfoldable pub boolean : Bool → ℕ → TypeInfo → Parser Argument
boolean big start info = do
  name ← maybe_name info.has_variable_info big
  byte ← number true 1
  made start info name None None (Value.Bool byte)

-- a value of n bytes: raw, or a string
unfoldable pub content : Bool → ℕ → Parser Value
content raw n = choose raw (bytes n >>= (λ v. ret (Value.Raw v))) (text n >>= (λ v. ret (Value.StringVal v)))

-- string and raw have value size, name size, name, value
unfoldable pub sized : Bool → Bool → ℕ → TypeInfo → Parser Argument
sized raw big start info = do
  size ← number big 2
  name ← maybe_name info.has_variable_info big
  v ← content raw size
  made start info name None None v

-- what follows the type info, by its kind
unfoldable pub kinded : Bool → ℕ → TypeInfo → TypeInfoKind → Parser Argument
kinded big start info (TypeInfoKind.Signed w) = plain big start info (Numeric.Signed w)
kinded big start info (TypeInfoKind.SignedFixedPoint w) = scaled big start info w (Numeric.Signed (wide_length w))
kinded big start info (TypeInfoKind.Unsigned w) = plain big start info (Numeric.Unsigned w)
kinded big start info (TypeInfoKind.UnsignedFixedPoint w) = scaled big start info w (Numeric.Unsigned (wide_length w))
kinded big start info (TypeInfoKind.Float w) = plain big start info (Numeric.Float w)
kinded big start info TypeInfoKind.Raw = sized true big start info
kinded big start info TypeInfoKind.Bool = boolean big start info
kinded big start info TypeInfoKind.StringType = sized false big start info

-- an argument: its type info, and what follows it
unfoldable pub argument : Bool → Parser Argument
argument big = do
  start ← here
  info ← type_info_of big
  kinded big start info info.kind
