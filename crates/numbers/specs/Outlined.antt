-- A message whose headers stand where an outline says (crate outline), as numbers: its headers are told from the bytes, its payload is given.
use Rattle.std.specs.Prelude.{ℕ, ◌+◌, ◌-◌, List, length, leb}
use Rattle.wire.specs.Parser.{pick}
use Rattle.headertype.specs.Bits.{flag}
use Rattle.payload.specs.declared.PayloadContent.{PayloadContent}
use Rattle.parse.specs.declared.ParsedMessage.{ParsedMessage}
use Rattle.outline.specs.There.{stored_at, standard_at, extended_place_of, extended_if}
use Rattle.outline.specs.declared.Outline.{Outline}
use Rattle.numbers.specs.Layout.{message_laid}

unfoldable pub outlined_item : List ℕ → Outline → PayloadContent → ParsedMessage
outlined_item s o p = ParsedMessage.Item (record {
  storage_header = stored_at s o.place;
  header = standard_at o.header_type o.length s (o.place + 16);
  extended_header = extended_if (flag 1 o.header_type) s (extended_place_of o.header_type (o.place + 16));
  payload = p;
})

-- nothing is written where fewer bytes stand from the pattern on than headers can have
unfoldable pub outlined_laid : List ℕ → List ℕ → Outline → PayloadContent → List ℕ
outlined_laid T s o p = pick (leb 42 (length s - o.place)) (message_laid T (outlined_item s o p)) T
