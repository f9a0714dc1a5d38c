-- `wire::byte` meets its contract: a byte is a number of one digit.
use native.Mathlib.Omega.{arith}
use mathlib.Core.Path.{refl}
use mathlib.Core.Bool.{true}
use Rattle.wire.proofs.Digits.{byte_is}
use Rattle.wire.proofs.byte.Goals as goal

pub overflow_cast-result : goal.overflow_cast-result
overflow_cast-result c = omega (arith, c.type_inv.s c.args.at)

pub returns : goal.returns
returns c =
    let a = c.args in
    byte_is true a.s.now a.at _ refl (omega (arith, c.type_inv.s a.at))
