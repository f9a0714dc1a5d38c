-- Each rule of a name keeps the laws: by composition.
use Prim.Native.Nat.{ℕ}
use mathlib.Core.Bool.{Bool}
use Rattle.wire.specs.Lawful.{Lawful}
use Rattle.wire.proofs.Rules.{laws}
use Rattle.strings.proofs.Strings.{text_law}
use Rattle.names.specs.Names.{name, maybe_name, texts, name_and_unit_of, maybe_names}

pub name_law : (big : Bool) → Lawful (name big)
unfolding name
name_law big = search (laws, text_law) depth 20

pub maybe_name_law : (info big : Bool) → Lawful (maybe_name info big)
unfolding maybe_name
maybe_name_law info big = search (laws, name_law) depth 20

texts_law : (nameSize unitSize : ℕ) → Lawful (texts nameSize unitSize)
unfolding texts
texts_law nameSize unitSize = search (laws, text_law) depth 20

name_and_unit_law : (big : Bool) → Lawful (name_and_unit_of big)
unfolding name_and_unit_of
name_and_unit_law big = search (laws, texts_law) depth 20

pub maybe_names_law : (info big : Bool) → Lawful (maybe_names info big)
unfolding maybe_names
maybe_names_law info big = search (laws, name_and_unit_law) depth 20
