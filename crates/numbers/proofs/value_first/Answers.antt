use mathlib.Core.Path.{sym, ap, ◌∙◌}
use Rattle.numbers.specs.Arguments.{value_first_of}
use Rattle.numbers.proofs.value_first.Goals as goal

pub returns-in-F32 : goal.returns-in-F32
returns-in-F32 c = c.bits_of_f32.ensures ∙ sym (ap value_first_of c.in-F32.is)

pub returns-in-F64 : goal.returns-in-F64
returns-in-F64 c = c.bits_of_f64.ensures ∙ sym (ap value_first_of c.in-F64.is)

pub returns-in-StringVal : goal.returns-in-StringVal
returns-in-StringVal c = sym (ap value_first_of c.in-StringVal.is)
