-- One argument passed. These rules are document 01's of an argument with nothing kept: proofs/Same.antt has the theorem, `skim-same`.
use Rattle.std.specs.Prelude.{ℕ, ◌+◌, ◌/◌, ◌%◌, Bool, eqb, Result, Ok, Err}
use Rattle.wire.specs.Answer.{Ans, Parser}
use Rattle.wire.specs.Answer.Ans.{done, need, hickup, broken}
use Rattle.wire.specs.declared.Need.{Need}
use Rattle.wire.specs.Parser.{pick, ret, refuse, choose, asking, fixed, ◌>>=◌}
use Rattle.wire.specs.Number.{number}
use Rattle.strings.specs.Text.{text_need}
use Rattle.headertype.specs.Bits.{flag, either}
use Rattle.dlt.specs.TypeInfoWord.{length_bytes, float_bytes}
use Rattle.dlt.specs.declared.TypeInfoKind.{TypeInfoKind}
use Rattle.arguments.specs.Argument.{type_info_of}

-- an answer with its value not kept
abbrev pub passed : {A : Type 0} → Ans A → Ans Unit
passed (done a b) = done tt b
passed (need n) = need n
passed (hickup r) = hickup r
passed broken = broken

-- the answer that a result stands for where nothing is refused, as behind a type info word that is accepted
abbrev pub skim_ans : Result ℕ Need → Ans Unit
skim_ans (Ok next) = done tt next
skim_ans (Err n) = need n.0

-- n bytes, whatever they are
unfoldable pub run : ℕ → Parser Unit
run n = fixed n (λ s at. tt)

-- a string of size n
unfoldable pub skim_text_of : ℕ → Parser Unit
skim_text_of n = asking n (text_need n) (λ s at. done tt (at + n))

-- the names
unfoldable pub skim_name_of : Bool → Bool → Parser Unit
skim_name_of info big = choose info (number big 2 >>= (λ n. skim_text_of n)) (ret tt)

unfoldable pub skim_texts_of : ℕ → ℕ → Parser Unit
skim_texts_of name unit = do
  u ← skim_text_of name
  skim_text_of unit

unfoldable pub skim_names_of : Bool → Bool → Parser Unit
skim_names_of info big = choose info (do
  name ← number big 2
  unit ← number big 2
  skim_texts_of name unit) (ret tt)

-- the kinds
unfoldable pub skim_plain_of : Bool → ℕ → Bool → Parser Unit
skim_plain_of info n big = do
  u ← skim_names_of info big
  run n

unfoldable pub skim_point_of : ℕ → Parser Unit
skim_point_of n = do
  u ← run 4
  run n

unfoldable pub skim_scaled_of : Bool → ℕ → Bool → Parser Unit
skim_scaled_of info n big = do
  u ← skim_names_of info big
  v ← skim_point_of n
  run n

unfoldable pub skim_bool_of : Bool → Bool → Parser Unit
skim_bool_of info big = do
  u ← skim_name_of info big
  run 1

unfoldable pub skim_string_of : Bool → Bool → Parser Unit
skim_string_of info big = do
  size ← number big 2
  u ← skim_name_of info big
  skim_text_of size

unfoldable pub skim_raw_of : Bool → Bool → Parser Unit
skim_raw_of info big = do
  size ← number big 2
  u ← skim_name_of info big
  run size

unfoldable pub skim_kind : Bool → Bool → TypeInfoKind → Parser Unit
skim_kind big info (TypeInfoKind.Signed w) = skim_plain_of info (length_bytes w) big
skim_kind big info (TypeInfoKind.SignedFixedPoint w) = skim_scaled_of info (float_bytes w) big
skim_kind big info (TypeInfoKind.Unsigned w) = skim_plain_of info (length_bytes w) big
skim_kind big info (TypeInfoKind.UnsignedFixedPoint w) = skim_scaled_of info (float_bytes w) big
skim_kind big info (TypeInfoKind.Float w) = skim_plain_of info (float_bytes w) big
skim_kind big info TypeInfoKind.Raw = skim_raw_of info big
skim_kind big info TypeInfoKind.Bool = skim_bool_of info big
skim_kind big info TypeInfoKind.StringType = skim_string_of info big

-- an argument: its type info, and what follows it
unfoldable pub skim_argument_of : Bool → Parser Unit
skim_argument_of big = do
  info ← type_info_of big
  skim_kind big info.has_variable_info info.kind

-- ---- the same told from the bits of the type info word (proofs/Words.antt has the theorem, `IsWord-same`)
-- the bytes of a value by the number of its length; 0 where the number is none
unfoldable pub bytes_of : ℕ → ℕ
bytes_of n = pick (eqb n 1) 1 (pick (eqb n 2) 2 (pick (eqb n 3) 4 (pick (eqb n 4) 8 (pick (eqb n 5) 16 0))))

-- a number of n bytes: an integer has some, floats and fixed-point numbers have 4 or 8
unfoldable pub skim_whole_of : Bool → ℕ → Bool → Parser Unit
skim_whole_of info n big = choose (eqb n 0) (refuse 2) (skim_plain_of info n big)

unfoldable pub skim_float_of : Bool → ℕ → Bool → Parser Unit
skim_float_of info n big = choose (either (eqb n 4) (eqb n 8)) (skim_plain_of info n big) (refuse 2)

unfoldable pub skim_fixed_of : Bool → ℕ → Bool → Parser Unit
skim_fixed_of info n big = choose (either (eqb n 4) (eqb n 8)) (skim_scaled_of info n big) (refuse 2)

unfoldable pub skim_number_of : Bool → Bool → ℕ → Bool → Parser Unit
skim_number_of info fixed n big = choose fixed (skim_fixed_of info n big) (skim_whole_of info n big)

unfoldable pub skim_bits : Bool → Bool → Bool → ℕ → ℕ → Parser Unit
skim_bits big info fixed n bits =
    choose (eqb bits 1) (skim_bool_of info big)
    (choose (either (eqb bits 2) (eqb bits 4)) (skim_number_of info fixed n big)
    (choose (eqb bits 8) (skim_float_of info n big)
    (choose (eqb bits 32) (skim_string_of info big)
    (choose (eqb bits 64) (skim_raw_of info big) (refuse 2)))))

unfoldable pub skim_word_of : Bool → ℕ → Parser Unit
skim_word_of big word = skim_bits big (flag 2048 word) (flag 4096 word) (bytes_of (word % 16)) (word / 16 % 128)
