-- `cursor::pass_arguments` meets its contract. The invariant: the whole is what is left of it at the loop's position.
use Prim.Native.Nat.{◌-◌}
use mathlib.Core.Path.{◌≡◌}
use Rattle.wire.specs.Parser.{times}
use Rattle.arguments.specs.Argument.{argument}
use Rattle.cursor.specs.Cursor.{arguments}
use Rattle.cursor.proofs.pass_arguments.Given as goal

abbrev pub invariant-loop : goal.invariant-loop
invariant-loop l = arguments l.big l.count l.s l.at ≡ times (l.count - l.counter) (argument l.big) l.s l.pos
