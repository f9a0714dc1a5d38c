-- The same of a message that can be told at a glance (crate outline): its bytes are all there, so only its kind, its arguments and the filter matter.
use Rattle.std.specs.Prelude.{ℕ, ◌+◌, ◌-◌, ◌/◌, ◌%◌, Bool, List, get_or, take, leb, eqb}
use Rattle.wire.specs.Answer.{Ans}
use Rattle.wire.specs.Answer.Ans.{done, need, hickup, broken}
use Rattle.wire.specs.Parser.{pick}
use Rattle.headertype.specs.Bits.{flag}
use Rattle.headertype.specs.HeaderType.{all_headers}
use Rattle.cursor.specs.Cursor.{arguments}
use Rattle.outline.specs.declared.Outline.{Outline}
use Rattle.walk.specs.Walk.{Step, Take}
use Rattle.step.specs.Step.{item_kind, hickup_kind, unrecoverable_kind, overrun_kind}

-- arguments as they are heard, of the bytes up to the declared end: what lacks bytes there is an overrun
abbrev pub heard_list : ℕ → ℕ → Ans Unit → Step ℕ ℕ
heard_list skipped len (done u n) = Take skipped len item_kind
heard_list skipped len (hickup r) = Take skipped 4 hickup_kind
heard_list skipped len broken = Take skipped 4 unrecoverable_kind
heard_list skipped len (need n) = Take skipped len overrun_kind

-- a payload of n bytes that are there: Unrecoverable below the least that its kind must have
unfoldable pub heard_run : ℕ → ℕ → ℕ → ℕ → Step ℕ ℕ
heard_run least n skipped len = pick (leb least n) (Take skipped len item_kind) (Take skipped 4 unrecoverable_kind)

-- by the message info, ten bytes before the payload: verbose, else control type, else plain
unfoldable pub heard_extended : Bool → ℕ → ℕ → ℕ → List ℕ → ℕ → Step ℕ ℕ
heard_extended big n skipped len s at =
    pick (flag 1 (get_or s (at - 10) 0)) (heard_list skipped len (arguments big (get_or s (at - 9) 0) (take (at + n) s) at))
    (pick (eqb (get_or s (at - 10) 0 / 2 % 8) 3) (heard_run 1 n skipped len) (heard_run 4 n skipped len))

unfoldable pub heard_outline : List ℕ → Outline → Step ℕ ℕ
heard_outline s o =
    pick (flag 1 o.header_type)
    (heard_extended (flag 2 o.header_type) (o.length - all_headers o.header_type) o.place (16 + o.length) s (o.place + 16 + all_headers o.header_type))
    (heard_run 4 (o.length - all_headers o.header_type) o.place (16 + o.length))
