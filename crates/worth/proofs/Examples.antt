-- Needs at work, by computing: there are messages of which step 5 gives the need; a verbose one may wait on behind it; and needs of earlier steps say less.
use native.Mathlib.Omega.{arith}
use mathlib.Core.Path.{◌≡◌, refl}
use mathlib.Core.Bool.{true, false}
use mathlib.Core.List.{[], ◌∷◌, ◌++◌}
use lib.ListN.{replicate}
use Rattle.wire.specs.Parser.{◌>>=◌, ret, here, choose, asking, having, fixed}
use Rattle.wire.specs.Number.{number, number_of}
use Rattle.wire.specs.Run.{bytes}
use Rattle.strings.specs.Text.{identified, text, ended_text, text_of, ended_of}
use Rattle.strings.specs.Utf8.{valid_up_to_of, up_to, sequence, among, formed}
use Rattle.mark.specs.First.{find, first_of_lem, stands_at_of}
use Rattle.headertype.specs.HeaderType.{all_headers, overall_length_of, header_type_byte_of}
use Rattle.headers.specs.Standard.{maybe_id, maybe_number_of, endian_of, header_of_lem, flagged, standard}
use Rattle.headers.specs.Extended.{extended_of_lem, named, extended}
use Rattle.messageinfo.specs.MessageInfo.{known_level, log_level_of, message_type_by}
use Rattle.storage.specs.Storage.{marked, storage, stored, owned, stored_of}
use Rattle.payload.specs.Payload.{is_verbose_of}
use Rattle.parse.specs.Message.{maybe_extended_of}
use Rattle.facts.proofs.Vectors.{sum, needs, v1, others}
use Rattle.worth.specs.Opening.{Opening, opening_behind, opening}
use Rattle.worth.specs.Need.{Short}

-- four bytes of headers, eight declared, five there: three are missing
pub short_of_three : (l : Opening) × Short false (0x20 ∷ 0x07 ∷ 0x00 ∷ 0x08 ∷ 0x00 ∷ []) 3 l × (is_verbose_of l.extended ≡ false)
unfolding opening opening_behind choose here standard number fixed having asking number_of flagged maybe_id maybe_number_of ret ◌>>=◌ header_of_lem endian_of all_headers overall_length_of header_type_byte_of maybe_extended_of is_verbose_of
short_of_three = (_, record { behind = 4; read = refl; missing = refl; some = omega arith }, refl)

-- the same behind a storage header and a byte of junk, with one missing
pub stored_short_of_one : (l : Opening) × Short true (0xFF ∷ 0x44 ∷ 0x4C ∷ 0x54 ∷ 0x01 ∷ replicate 12 0 ++ 0x20 ∷ 0x07 ∷ 0x00 ∷ 0x08 ∷ 0x00 ∷ 0x00 ∷ 0x00 ∷ []) 1 l × (is_verbose_of l.extended ≡ false)
unfolding opening opening_behind choose here standard number fixed having asking number_of flagged maybe_id maybe_number_of ret ◌>>=◌ header_of_lem endian_of all_headers overall_length_of header_type_byte_of maybe_extended_of is_verbose_of storage marked stored bytes owned stored_of find first_of_lem stands_at_of identified text ended_text text_of ended_of valid_up_to_of up_to sequence among formed
stored_short_of_one = (_, record { behind = 21; read = refl; missing = refl; some = omega arith }, refl)

-- A VERBOSE MESSAGE MAY WAIT ON: step 5 needs one byte, and with that byte the arguments need three, which lie past the declared end
pub verbose_may_wait : ((l : Opening) × Short false v1 1 l × (is_verbose_of l.extended ≡ true)) × (sum false v1 ≡ needs 1) × (sum false (v1 ++ 0x00 ∷ []) ≡ needs 3)
unfolding opening opening_behind choose here standard number fixed having asking number_of flagged maybe_id maybe_number_of ret ◌>>=◌ header_of_lem endian_of all_headers overall_length_of header_type_byte_of maybe_extended_of extended named extended_of_lem is_verbose_of identified text ended_text text_of ended_of valid_up_to_of up_to sequence among formed known_level log_level_of message_type_by
verbose_may_wait = ((_, record { behind = 14; read = refl; missing = refl; some = omega arith }, refl), others.1, others.2)

-- and so may any message before its headers are read: one byte needs one more, and then two
pub early_may_wait : (sum false (0x20 ∷ []) ≡ needs 1) × (sum false (0x20 ∷ 0x00 ∷ []) ≡ needs 2)
early_may_wait = (others.3, others.4)
