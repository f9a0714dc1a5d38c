-- One argument from signal data: document 01, "`construct_arguments` differs", and Hickup reasons 2, 5, 6 and 7.
use Rattle.std.specs.Prelude.{ℕ, ◌+◌, Bool, true, leb, None}
use Rattle.wire.specs.Answer.{Ans, Parser}
use Rattle.wire.specs.Answer.Ans.{done, need, hickup, broken}
use Rattle.wire.specs.Parser.{pick, ret, here, refuse, having, ◌>>=◌}
use Rattle.wire.specs.Number.{number}
use Rattle.wire.specs.Run.{range, bytes}
use Rattle.wire.specs.declared.Ended.{Ended}
use Rattle.strings.specs.Utf8.{valid_up_to_of}
use Rattle.dlt.specs.TypeInfoWord.{float_bytes, type_info_of_lem}
use Rattle.dlt.specs.declared.FloatWidth.{FloatWidth}
use Rattle.dlt.specs.declared.TypeInfoKind.{TypeInfoKind}
use Rattle.dlt.specs.declared.TypeInfo.{TypeInfo}
use Rattle.dlt.specs.declared.Value.{Value}
use Rattle.dlt.specs.declared.Argument.{Argument}
use Rattle.values.specs.Value.{value}
use Rattle.values.specs.declared.Numeric.{Numeric}
use Rattle.arguments.specs.Argument.{decoded, made}

-- a string's whole content must be UTF-8 and keeps its zero bytes, so it ends at its size: else Hickup 6
unfoldable pub utf8 : ℕ → Parser Value
utf8 n = having n (λ s at. pick (leb n (valid_up_to_of n s at)) (done (Value.StringVal (record { place = range at n; ended = Ended.Size })) (at + n)) (hickup 6))

-- a fixed-point kind gets a slice of the value's width only, so it is never a value: Hickup 7 once that width is there
unfoldable pub fixed_width : FloatWidth → Parser Value
fixed_width width = having (float_bytes width) (refuse 7)

-- the value of each kind; no names
unfoldable pub content : Bool → TypeInfoKind → Parser Value
content big TypeInfoKind.StringType = do
  size ← number big 2
  utf8 size
content big TypeInfoKind.Raw = do
  size ← number big 2
  v ← bytes size
  ret (Value.Raw v)
content big TypeInfoKind.Bool = do
  byte ← number true 1
  ret (Value.Bool byte)
content big (TypeInfoKind.Float w) = value big (Numeric.Float w)
content big (TypeInfoKind.Signed w) = value big (Numeric.Signed w)
content big (TypeInfoKind.SignedFixedPoint w) = fixed_width w
content big (TypeInfoKind.Unsigned w) = value big (Numeric.Unsigned w)
content big (TypeInfoKind.UnsignedFixedPoint w) = fixed_width w

unfoldable pub in_data_of : Bool → TypeInfo → Parser Argument
in_data_of big info = do
  start ← here
  v ← content big info.kind
  made start info None None None v

-- the data is whole, so what is too short is Hickup 5, and nothing is Incomplete
abbrev pub closed : {A : Type 0} → Ans A → Ans A
closed (done a b) = done a b
closed (need n) = hickup 5
closed (hickup r) = hickup r
closed broken = broken

unfoldable pub whole : {A : Type 0} → Parser A → Parser A
whole p s at = closed (p s at)

-- one signal: a word that doesn't decode is Hickup 2
unfoldable pub signal : Bool → ℕ → Parser Argument
signal big word = do
  info ← decoded (type_info_of_lem word)
  whole (in_data_of big info)
