-- The names of an argument: document 01, type info, "With variable info, .. name size, unit size, name, unit".
use Rattle.std.specs.Prelude.{ℕ, Bool, Option, Some, None}
use Rattle.wire.specs.Answer.{Parser}
use Rattle.wire.specs.Parser.{ret, choose, ◌>>=◌}
use Rattle.wire.specs.Number.{number}
use Rattle.wire.specs.declared.Text.{Text}
use Rattle.strings.specs.Text.{text}
use Rattle.names.specs.declared.Names.{Names}

-- name size and name
unfoldable pub name : Bool → Parser Text
name big = do
  size ← number big 2
  text size

-- the same, if there is variable info
unfoldable pub maybe_name : Bool → Bool → Parser (Option Text)
maybe_name info big = choose info (name big >>= (λ v. ret (Some v))) (ret None)

-- name size, unit size, name, unit
unfoldable pub texts : ℕ → ℕ → Parser Names
texts nameSize unitSize = do
  name ← text nameSize
  unit ← text unitSize
  ret (record { name = Some name; unit = Some unit })

unfoldable pub name_and_unit_of : Bool → Parser Names
name_and_unit_of big = do
  nameSize ← number big 2
  unitSize ← number big 2
  texts nameSize unitSize

-- the same, if there is variable info
unfoldable pub maybe_names : Bool → Bool → Parser Names
maybe_names info big = choose info (name_and_unit_of big) (ret (record { name = None; unit = None }))
