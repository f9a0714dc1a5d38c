-- Document 01, "The trace index": what the walk hears of the confined reading, in storage mode.
use Rattle.std.specs.Prelude.{ℕ, ◌+◌, true, List, Option, Some, None}
use Rattle.wire.specs.Answer.{Ans}
use Rattle.wire.specs.Answer.Ans.{done, need, hickup, broken}
use Rattle.mark.specs.First.{pattern, find}
use Rattle.headertype.specs.HeaderType.{overall_length_of}
use Rattle.filter.specs.declared.Filter.{Filter}
use Rattle.parse.specs.Message.{routed}
use Rattle.parse.specs.declared.Headers.{Headers}
use Rattle.confined.specs.Confined.{confined_message_of}
use Rattle.confined.specs.declared.ConfinedMessage.{ConfinedMessage}
use Rattle.walk.specs.Walk.{Step, Wait, Take}
use Rattle.step.specs.declared.Heard.{Heard}
use Rattle.storage.specs.declared.Stored.{Stored}

-- the kinds of an entry as numbers: item, filtered, hickup, unrecoverable, overrun
abbrev pub item_kind : ℕ
item_kind = 0

abbrev pub filtered_kind : ℕ
filtered_kind = 1

abbrev pub hickup_kind : ℕ
hickup_kind = 2

abbrev pub unrecoverable_kind : ℕ
unrecoverable_kind = 3

abbrev pub overrun_kind : ℕ
overrun_kind = 4

abbrev pub kind_of : ConfinedMessage → ℕ
kind_of (ConfinedMessage.Item m) = item_kind
kind_of (ConfinedMessage.FilteredOut p) = filtered_kind
kind_of (ConfinedMessage.Overrun p) = overrun_kind

-- the bytes skipped before the pattern
abbrev pub skipped_to_of : Option ℕ → ℕ
skipped_to_of (Some i) = i
skipped_to_of None = 0

-- 16 plus declared
abbrev pub length_of : Ans Headers → ℕ
length_of (done h n) = 16 + overall_length_of h.header
length_of (need n) = 0
length_of (hickup r) = 0
length_of broken = 0

-- item, filtered or overrun: one entry of length 16 plus declared; Hickup or Unrecoverable: one entry with length 4; Incomplete: wait
abbrev pub heard : ℕ → ℕ → Ans ConfinedMessage → Step ℕ ℕ
heard skipped len (done v n) = Take skipped len (kind_of v)
heard skipped len (hickup r) = Take skipped 4 hickup_kind
heard skipped len broken = Take skipped 4 unrecoverable_kind
heard skipped len (need n) = Wait n

-- the walk asks the confined reading of the bytes from the resume position on
unfoldable pub asked : List ℕ → Filter → List ℕ → Step ℕ ℕ
asked f filter s = heard (skipped_to_of (find pattern s 0)) (length_of (routed f filter true s 0)) (confined_message_of f filter true s 0)

-- the bytes skipped, as the storage header has them
unfoldable pub skipped_of_lem : Option Stored → ℕ
skipped_of_lem (Some x) = x.skipped
skipped_of_lem None = 0

-- the step that the enum stands for
abbrev pub step_of : Heard → Step ℕ ℕ
step_of (Heard.Wait n) = Wait n
step_of (Heard.Take k l i) = Take k l i
