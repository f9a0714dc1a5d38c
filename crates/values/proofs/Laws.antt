-- Each rule of a value keeps the laws: by composition.
use mathlib.Core.Bool.{Bool}
use Rattle.wire.specs.Lawful.{Lawful}
use Rattle.wire.proofs.Rules.{laws}
use Rattle.dlt.specs.declared.TypeLength.{TypeLength}
use Rattle.dlt.specs.declared.FloatWidth.{FloatWidth}
use Rattle.values.specs.Value.{uint, sint, fint, value, offset, fixed_point_of}
use Rattle.values.specs.declared.Numeric.{Numeric}

module _ (big : Bool) where
  pub uint_law : (width : TypeLength) → Lawful (uint big width)
  unfolding uint
  uint_law width = search laws depth 20

  pub sint_law : (width : TypeLength) → Lawful (sint big width)
  unfolding sint
  sint_law width = search laws depth 20

  pub fint_law : (width : FloatWidth) → Lawful (fint big width)
  unfolding fint
  fint_law width = search laws depth 20

  pub value_law : (sort : Numeric) → Lawful (value big sort)
  unfolding value
  value_law (Numeric.Unsigned width) = uint_law width
  value_law (Numeric.Signed width) = sint_law width
  value_law (Numeric.Float width) = fint_law width

  offset_law : (width : FloatWidth) → Lawful (offset big width)
  unfolding offset
  offset_law width = search laws depth 20

  pub fixed_point_law : (width : FloatWidth) → Lawful (fixed_point_of big width)
  unfolding fixed_point_of
  fixed_point_law width = search (laws, offset_law) depth 20
