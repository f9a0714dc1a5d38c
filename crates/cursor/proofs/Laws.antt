-- Arguments in a row keep the laws: by composition.
use Prim.Native.Nat.{ℕ, zero, suc}
use mathlib.Core.Bool.{Bool}
use mathlib.Core.List.{◌∷◌}
use Rattle.wire.specs.Lawful.{Lawful}
use Rattle.wire.proofs.Laws.{then_law, ret_law}
use Rattle.wire.proofs.Rules.{laws}
use Rattle.arguments.specs.Argument.{argument}
use Rattle.arguments.proofs.Laws.{argument_law}
use Rattle.cursor.specs.Cursor.{arguments, listed, turn}
use Rattle.cursor.specs.Raw.{raw_of_lem, hand_out_of, first_raw, raw_turn}
use Rattle.cursor.specs.declared.Cursor.{Cursor}
use Rattle.cursor.specs.declared.RawCursor.{RawCursor}
use Rattle.std.specs.Prelude.{Option, Some, None}
use Rattle.wire.specs.declared.Range.{Range}

pub arguments_law : (big : Bool) (n : ℕ) → Lawful (arguments big n)
unfolding arguments
arguments_law big n = search (laws, argument_law) depth 20

pub listed_law : (big : Bool) (n : ℕ) → Lawful (listed big n)
unfolding listed
listed_law big zero = search laws depth 20
listed_law big (suc n) = then_law (argument big) _ (argument_law big) (λ a. then_law (listed big n) _ (listed_law big n) (λ rest. ret_law (a ∷ rest)))

pub turn_law : (c : Cursor) → Lawful (turn c)
unfolding turn
turn_law c = search (laws, argument_law) depth 20

first_raw_law : (big : Bool) (n : ℕ) → Lawful (first_raw big n)
unfolding first_raw
first_raw_law big zero = search laws depth 20
first_raw_law big (suc n) = then_law (argument big) _ (argument_law big) (λ a. behind (raw_of_lem a.value) (first_raw_law big n))
  where
    behind : (o : Option Range) → Lawful (first_raw big n) → Lawful (hand_out_of big n (first_raw big n) o)
    behind (Some r) rest = search laws depth 20
    behind None rest = rest

pub raw_turn_law : (c : RawCursor) → Lawful (raw_turn c)
raw_turn_law c = first_raw_law c.big c.left
