-- Document 01, step 4: the extended header.
use Rattle.std.specs.Prelude.{ℕ, true}
use Rattle.wire.specs.Answer.{Parser}
use Rattle.wire.specs.Parser.{ret, ◌>>=◌}
use Rattle.wire.specs.Number.{number}
use Rattle.wire.specs.declared.Text.{Text}
use Rattle.strings.specs.Text.{identified}
use Rattle.headertype.specs.Bits.{flag}
use Rattle.messageinfo.specs.MessageInfo.{message_type_of}
use Rattle.messageinfo.specs.declared.ExtendedHeader.{ExtendedHeader}

-- bit 0 of the message info is verbose
unfoldable pub extended_of_lem : ℕ → ℕ → Text → Text → ExtendedHeader
extended_of_lem info count app context = record {
  verbose = flag 1 info;
  argument_count = count;
  message_type = message_type_of info;
  application_id = app;
  context_id = context;
}

-- two identifiers
unfoldable pub named : ℕ → ℕ → Parser ExtendedHeader
named info count = do
  app ← identified
  context ← identified
  ret (extended_of_lem info count app context)

-- message info, argument count, two identifiers
unfoldable pub extended : Parser ExtendedHeader
extended = do
  info ← number true 1
  count ← number true 1
  named info count
