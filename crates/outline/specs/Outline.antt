-- A message at a glance: where 42 bytes stand from the pattern on (16 of the storage header, at most 16 and 10 behind it), what ends the reading of the
-- headers early is told from the type byte and the declared length.
use Rattle.std.specs.Prelude.{ℕ, ◌+◌, ◌-◌, List, length, leb, Option, Some, None}
use Rattle.wire.specs.Parser.{pick}
use Rattle.mark.specs.First.{pattern, find}
use Rattle.headertype.specs.HeaderType.{all_headers}
use Rattle.outline.specs.There.{type_at, length_at}
use Rattle.outline.specs.declared.OutlineAns.{OutlineAns}

-- a declared length below all headers is Hickup 1; more bytes declared than are there are left to the full reading
unfoldable pub tested : List ℕ → ℕ → ℕ → ℕ → OutlineAns
tested s i type n =
    pick (leb (all_headers type) n)
    (pick (leb n (length s - (i + 16))) (OutlineAns.Done (record { place = i; header_type = type; length = n })) OutlineAns.Unseen)
    (OutlineAns.Hickup i)

-- no pattern: under 16 bytes the need is unknown, else it is 1
abbrev pub outline_from : List ℕ → Option ℕ → OutlineAns
outline_from s (Some i) = pick (leb 42 (length s - i)) (tested s i (type_at s (i + 16)) (length_at s (i + 16))) OutlineAns.Unseen
outline_from s None = OutlineAns.Nowhere (pick (leb 16 (length s)) 1 0)

unfoldable pub outline_of : List ℕ → OutlineAns
outline_of s = outline_from s (find pattern s 0)
