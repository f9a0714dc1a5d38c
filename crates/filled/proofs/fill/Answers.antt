use mathlib.Core.Path.{◌≡◌, sym, ap, ◌∙◌}
use Prim.Native.Nat.{ℕ}
use mathlib.Core.List.{List}
use Rattle.index.specs.Index.{call, Outcome}
use Rattle.index.specs.declared.State.{State}
use Rattle.entries.specs.Form.{entry_form}
use Rattle.entries.specs.declared.Entry.{Entry}
use Rattle.filled.proofs.fill.Goals as goal

-- a call over a table that is another
over : (f : List ℕ) (n : ℕ) (s : List ℕ) (st : State) {T U : List Entry} {o : Outcome Entry} → T ≡ U → call entry_form f n s st T ≡ o → call entry_form f n s st U ≡ o
over f n s st same is = ap (call entry_form f n s st) (sym same) ∙ is

pub returns : goal.returns
returns c = over _ _ _ _ c.fresh-table.ensures c.index_own.ensures
