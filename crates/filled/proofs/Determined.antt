-- The contract fixes the answer and the table. Assumes nothing.
use mathlib.Core.Path.{◌≡◌}
use Rattle.index.specs.Index.{Outcome}
use Rattle.index.proofs.Determined.{index_determined}
use Rattle.entries.specs.declared.Entry.{Entry}
use Rattle.filled.specs.declared.Filled.{Filled}

pub fill_determined : {x : Outcome Entry} {r r' : Filled} → x ≡ record { answer = r.answer; table = r.table } → x ≡ record { answer = r'.answer; table = r'.table } → r ≡ r'
fill_determined e e' = λ i. record { answer = (index_determined e e').0 i; table = (index_determined e e').1 i }
