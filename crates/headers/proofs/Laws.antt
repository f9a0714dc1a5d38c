-- Each header rule keeps the laws: by composition.
use Prim.Native.Nat.{ℕ}
use mathlib.Core.Bool.{Bool}
use Rattle.wire.specs.Lawful.{Lawful}
use Rattle.wire.proofs.Rules.{laws}
use Rattle.strings.proofs.Strings.{identified_law}
use Rattle.headers.specs.Standard.{maybe_id, maybe_number_of, flagged, standard, declared}
use Rattle.headers.specs.Extended.{named, extended}

pub maybe_id_law : (t : Bool) → Lawful (maybe_id t)
unfolding maybe_id
maybe_id_law t = search (laws, identified_law) depth 20

maybe_number_law : (t : Bool) → Lawful (maybe_number_of t)
unfolding maybe_number_of
maybe_number_law t = search laws depth 20

flagged_law : (type counter length : ℕ) → Lawful (flagged type counter length)
unfolding flagged
flagged_law type counter length = search (laws, maybe_id_law, maybe_number_law) depth 20

pub standard_law : Lawful standard
unfolding standard
standard_law = search (laws, flagged_law) depth 20

pub declared_law : Lawful declared
unfolding declared
declared_law = search laws depth 20

named_law : (info count : ℕ) → Lawful (named info count)
unfolding named
named_law info count = search (laws, identified_law) depth 20

pub extended_law : Lawful extended
unfolding extended
extended_law = search (laws, named_law) depth 20
