-- Each rule of an argument keeps the laws: by composition.
use Prim.Native.Nat.{ℕ}
use mathlib.Core.Bool.{Bool}
use Rattle.wire.specs.Lawful.{Lawful, Stable, Honest}
use Rattle.wire.specs.Parser.{ret, refuse}
use Rattle.wire.proofs.Laws.{ret_law, refuse_law, stable, honest}
use Rattle.wire.proofs.Rules.{laws}
use Rattle.strings.proofs.Strings.{text_law}
use Rattle.dlt.specs.declared.FloatWidth.{FloatWidth}
use Rattle.dlt.specs.declared.TypeInfoKind.{TypeInfoKind}
use Rattle.dlt.specs.declared.TypeInfo.{TypeInfo}
use Rattle.std.specs.Prelude.{Result, Ok, Err}
use Rattle.dlt.specs.declared.NoTypeInfo.{NoTypeInfo}
use Rattle.values.specs.declared.Numeric.{Numeric}
use Rattle.values.proofs.Laws.{value_law, fixed_point_law}
use Rattle.names.proofs.Laws.{maybe_name_law, maybe_names_law}
use Rattle.arguments.specs.Argument.{decoded, type_info_of, plain, scaled, boolean, content, sized, kinded, argument}

decoded_law : (d : Result TypeInfo NoTypeInfo) → Lawful (decoded d)
unfolding decoded ret refuse
decoded_law (Ok i) = ret_law i
decoded_law (Err r) = refuse_law 2

pub type_info_law : (big : Bool) → Lawful (type_info_of big)
unfolding type_info_of
type_info_law big = search (laws, decoded_law) depth 20

ruleset parts = (laws, text_law, maybe_name_law, maybe_names_law, value_law, fixed_point_law)

module _ (big : Bool) (start : ℕ) (info : TypeInfo) where
  plain_law : (sort : Numeric) → Lawful (plain big start info sort)
  unfolding plain
  plain_law sort = search parts depth 20

  scaled_law : (width : FloatWidth) (sort : Numeric) → Lawful (scaled big start info width sort)
  unfolding scaled
  scaled_law width sort = search parts depth 20

  kinded_law : (k : TypeInfoKind) → Lawful (kinded big start info k)
  unfolding kinded boolean content sized
  kinded_law (TypeInfoKind.Signed w) = plain_law _
  kinded_law (TypeInfoKind.SignedFixedPoint w) = scaled_law w _
  kinded_law (TypeInfoKind.Unsigned w) = plain_law _
  kinded_law (TypeInfoKind.UnsignedFixedPoint w) = scaled_law w _
  kinded_law (TypeInfoKind.Float w) = plain_law _
  kinded_law TypeInfoKind.Raw = search parts depth 20
  kinded_law TypeInfoKind.Bool = search parts depth 20
  kinded_law TypeInfoKind.StringType = search parts depth 20

pub argument_law : (big : Bool) → Lawful (argument big)
unfolding argument
argument_law big = search (laws, type_info_law, kinded_law) depth 20

-- the two facts in the words of document 01
pub argument_stable : (big : Bool) → Stable (argument big)
argument_stable big = stable (argument big) (argument_law big)

pub argument_honest : (big : Bool) → Honest (argument big)
argument_honest big = honest (argument big) (argument_law big)
