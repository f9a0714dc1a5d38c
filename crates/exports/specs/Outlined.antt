-- What is answered of a message that was told at a glance (crate outline), by what its payload reads as, and what is left in the lent slice.
use Rattle.std.specs.Prelude.{ℕ, ◌+◌, ◌-◌, List}
use Rattle.wire.specs.Answer.{Ans, numbered}
use Rattle.headertype.specs.Bits.{flag}
use Rattle.headertype.specs.HeaderType.{all_headers}
use Rattle.payload.specs.Payload.{payload}
use Rattle.payload.specs.declared.PayloadContent.{PayloadContent}
use Rattle.parse.specs.declared.ParsedMessage.{ParsedMessage}
use Rattle.outline.specs.There.{extended_place_of, extended_if}
use Rattle.outline.specs.declared.Outline.{Outline}
use Rattle.numbers.specs.Layout.{message_laid}
use Rattle.numbers.specs.Outlined.{outlined_laid}
use Rattle.exports.specs.Calls.{Outcome, told, shown_in}

unfoldable pub outlined_shown : List ℕ → List ℕ → Outline → Ans PayloadContent → Outcome
outlined_shown T s o x = shown_in (λ p. 0) (outlined_laid T s o) T (numbered x)

-- the payload behind all headers
unfoldable pub outlined_payload : List ℕ → Outline → Ans PayloadContent
outlined_payload s o =
    payload (flag 2 o.header_type) (extended_if (flag 1 o.header_type) s (extended_place_of o.header_type (o.place + 16))) (o.length - all_headers o.header_type) s
    (o.place + 16 + all_headers o.header_type)

-- a message that the filter drops uses its declared bytes, and its payload length alone is laid out
unfoldable pub dropped_shown : List ℕ → Outline → Outcome
dropped_shown T o = told 0 0 (o.place + 16 + o.length) (message_laid T (ParsedMessage.FilteredOut (o.length - all_headers o.header_type)))
