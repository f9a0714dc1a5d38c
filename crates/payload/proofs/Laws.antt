-- The payload keeps the laws: by composition.
use Prim.Native.Nat.{ℕ}
use mathlib.Core.Bool.{Bool}
use Rattle.wire.specs.Lawful.{Lawful}
use Rattle.wire.proofs.Rules.{laws}
use Rattle.cursor.proofs.Laws.{arguments_law}
use Rattle.payload.specs.Payload.{verbose, control, plain, payload}
use Rattle.std.specs.Prelude.{Option}
use Rattle.messageinfo.specs.declared.ExtendedHeader.{ExtendedHeader}

verbose_law : (big : Bool) (n : ℕ) (network : Bool) → Lawful (verbose big n network)
unfolding verbose
verbose_law big n network = search (laws, arguments_law) depth 20

control_law : (n : ℕ) → Lawful (control n)
unfolding control
control_law n = search laws depth 20

plain_law : (big : Bool) (n : ℕ) → Lawful (plain big n)
unfolding plain
plain_law big n = search laws depth 20

pub payload_law : (big : Bool) (e : Option ExtendedHeader) (n : ℕ) → Lawful (payload big e n)
unfolding payload
payload_law big e n = search (laws, verbose_law, control_law, plain_law) depth 20
