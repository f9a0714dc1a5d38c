-- `entries::index_entries` meets its contract: what is shown of the loop is `begins`, `goes` and `nearer` of proofs/Turns.antt.
use mathlib.Core.Path.{◌≡◌, sym, ◌∙◌}
use mathlib.Core.Bool.{true, true≢false}
use mathlib.Core.List.{List}
use Prim.Native.Nat.{ℕ}
use Rattle.index.specs.declared.State.{State}
use Rattle.entries.specs.declared.Entry.{Entry}
use Rattle.entries.specs.declared.Turn.{Turn}
use Rattle.entries.proofs.Turns.{Due, ends, writes, Writes, begins, goes, nearer}
use Rattle.entries.proofs.index_entries.Goals as goal

written : {f s : List ℕ} {st : State} {n : ℕ} {T₀ T : List Entry} {t : Turn} → Due f s st n T₀ T t → t.go ≡ true → Writes f s st n T₀ T t
written (ends off e q) on = absurd (true≢false (sym on ∙ off))
written (writes w) on = w

pub loop-t-init : goal.loop-t-init
loop-t-init c = rw c.first-t.ensures (begins _ _ _ _ _)

pub loop-t-smaller : goal.loop-t-smaller
loop-t-smaller c = rw c.next-t.ensures (nearer _ _ _ _ _ _ _ (written c.loop-t.invariant c.loop-t-test.true))

pub loop-t-preserved : goal.loop-t-preserved
loop-t-preserved c = rw c.next-t.ensures (goes _ _ _ _ _ _ _ (written c.loop-t.invariant c.loop-t-test.true))
