-- The reasons of each rule, in the document's order. A rule that gives none keeps any list; one that gives 1 keeps a list that has 1; and so on.
-- Assumes nothing.
use Prim.Native.Nat.{ℕ, zero, suc, ◌+◌, ◌-◌}
use mathlib.Core.Path.{◌≡◌}
use mathlib.Core.Bool.{Bool, true, false}
use mathlib.Core.List.{List, [], ◌∷◌}
use lib.ListN.{length, get_or}
use lib.Dec.{leb, eqb}
use Rattle.wire.specs.Answer.{Ans, Parser}
use Rattle.wire.specs.Answer.Ans.{done, need, hickup, broken}
use Rattle.wire.specs.Parser.{pick, refuse, lacking, ◌>>=◌}
use Rattle.wire.specs.Run.{range, bytes}
use Rattle.wire.specs.declared.Ended.{Ended}
use Rattle.strings.specs.Utf8.{valid_up_to_of}
use Rattle.mark.specs.First.{pattern, find}
use Rattle.headertype.specs.declared.StandardHeader.{StandardHeader}
use Rattle.headers.specs.Standard.{maybe_id, maybe_number_of, flagged, standard}
use Rattle.headers.specs.Extended.{named, extended}
use Rattle.storage.specs.Storage.{from_mark, marked, owned, stored, storage}
use Rattle.storage.specs.Consume.{tagged, skip, from, whole, consume}
use Rattle.dlt.specs.TypeInfoWord.{type_info_of_lem}
use Rattle.std.specs.Prelude.{Result, Ok, Err, Option, Some, None}
use Rattle.dlt.specs.declared.NoTypeInfo.{NoTypeInfo}
use Rattle.dlt.specs.declared.TypeInfo.{TypeInfo}
use Rattle.dlt.specs.declared.TypeInfoKind.{TypeInfoKind}
use Rattle.dlt.specs.declared.FloatWidth.{FloatWidth}
use Rattle.dlt.specs.declared.Value.{Value}
use Rattle.values.specs.Value.{uint, sint, fint, value, offset, fixed_point_of}
use Rattle.values.specs.declared.Numeric.{Numeric}
use Rattle.names.specs.Names.{name, maybe_name, texts, name_and_unit_of, maybe_names}
use Rattle.arguments.specs.Argument.{decoded, type_info_of, plain, scaled, boolean, content, sized, kinded, argument}
use Rattle.cursor.specs.Cursor.{arguments, turn}
use Rattle.cursor.specs.Raw.{raw_of_lem, hand_out_of, first_raw}
use Rattle.cursor.specs.declared.Cursor.{Cursor}
use Rattle.signals.specs.Signal as signalling
use Rattle.signals.specs.Signal.{utf8, fixed_width, in_data_of, closed, signal}
use Rattle.signals.specs.Signals.{signals, constructed, signal_turn}
use Rattle.signals.specs.declared.SignalCursor.{SignalCursor}
use Rattle.filter.specs.declared.Filter.{Filter}
use Rattle.payload.specs.Payload as pay
use Rattle.payload.specs.Payload.{payload}
use Rattle.parse.specs.Message.{having_from, seen, maybe_extended_of, finished, headers, routed, passed, item, body, message}
use Rattle.parse.specs.declared.Headers.{Headers}
use Rattle.confined.specs.Confined.{inside, confined_body_of, confined_message_of}
use Rattle.reasons.specs.Reasons.{is_one_of}
use Rattle.reasons.proofs.Gives.{Of, Gives, ret_gives, refuse_gives, then_gives, times_gives, numeric_gives, bytes_gives, having_gives, confined_gives, giving}
use Rattle.messageinfo.specs.declared.ExtendedHeader.{ExtendedHeader}
use Rattle.storage.specs.declared.Stored.{Stored}
use Rattle.wire.specs.declared.Range.{Range}
use Rattle.cursor.specs.declared.HandedRaw.{HandedRaw}

-- ---- none
module _ (all : List ℕ) where
  owned_gives : (a b c : ℕ) → Gives all (owned a b c)
  unfolding owned
  owned_gives a b c = search giving depth 20

  stored_gives : (k : ℕ) → Gives all (stored k)
  unfolding stored
  stored_gives k = search (giving, owned_gives) depth 20

  storage_gives : Gives all storage
  unfolding storage marked
  storage_gives = record { gives = λ s at. by s at (leb 16 (length s - at)) (find pattern s at) }
    where
      by : (s : List ℕ) (at : ℕ) (t : Bool) (o : Option ℕ) → Of all (pick t (from_mark stored None s at o) (need 0))
      by s at true (Some i) = (stored_gives (i - at)).gives s i
      by s at true None = tt
      by s at false o = tt

  ecu_gives : (t : Bool) → Gives all (maybe_id t)
  unfolding maybe_id
  ecu_gives t = search giving depth 20

  number_if_gives : (t : Bool) → Gives all (maybe_number_of t)
  unfolding maybe_number_of
  number_if_gives t = search giving depth 20

  named_gives : (info count : ℕ) → Gives all (named info count)
  unfolding named
  named_gives info count = search giving depth 20

  pub extended_gives : Gives all extended
  unfolding extended
  extended_gives = search (giving, named_gives) depth 20

  maybe_extended_gives : (t : Bool) → Gives all (maybe_extended_of t)
  unfolding maybe_extended_of
  maybe_extended_gives t = search (giving, extended_gives) depth 20

  value_gives : (big : Bool) (sort : Numeric) → Gives all (value big sort)
  unfolding value uint sint fint
  value_gives big (Numeric.Unsigned w) = numeric_gives all _ big _
  value_gives big (Numeric.Signed w) = numeric_gives all _ big _
  value_gives big (Numeric.Float w) = numeric_gives all _ big _

  offset_gives : (big : Bool) (w : FloatWidth) → Gives all (offset big w)
  unfolding offset
  offset_gives big w = numeric_gives all _ big _

  point_gives : (big : Bool) (w : FloatWidth) → Gives all (fixed_point_of big w)
  unfolding fixed_point_of
  point_gives big w = search (giving, offset_gives) depth 20

  name_gives : (big : Bool) → Gives all (name big)
  unfolding name
  name_gives big = search giving depth 20

  maybe_name_gives : (info big : Bool) → Gives all (maybe_name info big)
  unfolding maybe_name
  maybe_name_gives info big = search (giving, name_gives) depth 20

  texts_gives : (a b : ℕ) → Gives all (texts a b)
  unfolding texts
  texts_gives a b = search giving depth 20

  both_gives : (big : Bool) → Gives all (name_and_unit_of big)
  unfolding name_and_unit_of
  both_gives big = search (giving, texts_gives) depth 20

  names_gives : (info big : Bool) → Gives all (maybe_names info big)
  unfolding maybe_names
  names_gives info big = search (giving, both_gives) depth 20

  plain_gives : (big : Bool) (start : ℕ) (info : TypeInfo) (sort : Numeric) → Gives all (plain big start info sort)
  unfolding plain
  plain_gives big start info sort = search (giving, names_gives, value_gives) depth 20

  scaled_gives : (big : Bool) (start : ℕ) (info : TypeInfo) (w : FloatWidth) (sort : Numeric) → Gives all (scaled big start info w sort)
  unfolding scaled
  scaled_gives big start info w sort = search (giving, names_gives, value_gives, point_gives) depth 20

  boolean_gives : (big : Bool) (start : ℕ) (info : TypeInfo) → Gives all (boolean big start info)
  unfolding boolean
  boolean_gives big start info = search (giving, maybe_name_gives) depth 20

  content_gives : (raw : Bool) (n : ℕ) → Gives all (content raw n)
  unfolding content
  content_gives raw n = search giving depth 20

  sized_gives : (raw big : Bool) (start : ℕ) (info : TypeInfo) → Gives all (sized raw big start info)
  unfolding sized
  sized_gives raw big start info = search (giving, maybe_name_gives, content_gives) depth 20

  kinded_gives : (big : Bool) (start : ℕ) (info : TypeInfo) (k : TypeInfoKind) → Gives all (kinded big start info k)
  unfolding kinded
  kinded_gives big start info (TypeInfoKind.Signed w) = plain_gives big start info _
  kinded_gives big start info (TypeInfoKind.SignedFixedPoint w) = scaled_gives big start info w _
  kinded_gives big start info (TypeInfoKind.Unsigned w) = plain_gives big start info _
  kinded_gives big start info (TypeInfoKind.UnsignedFixedPoint w) = scaled_gives big start info w _
  kinded_gives big start info (TypeInfoKind.Float w) = plain_gives big start info _
  kinded_gives big start info TypeInfoKind.Raw = sized_gives true big start info
  kinded_gives big start info TypeInfoKind.Bool = boolean_gives big start info
  kinded_gives big start info TypeInfoKind.StringType = sized_gives false big start info

  passed_gives : (n : ℕ) → Gives all (passed n)
  unfolding passed
  passed_gives n = search giving depth 20

  control_gives : (n : ℕ) → Gives all (pay.control n)
  unfolding pay.control
  control_gives n = search giving depth 20

  run_gives : (big : Bool) (n : ℕ) → Gives all (pay.plain big n)
  unfolding pay.plain
  run_gives big n = search giving depth 20

  -- step 5: the declared bytes, seen from an earlier position
  from_gives : (start n : ℕ) (g : List ℕ → Headers) → Gives all (having_from start n (seen g))
  unfolding having_from seen
  from_gives start n g = record { gives = λ s at. by s at (leb n (length s - start)) }
    where
      by : (s : List ℕ) (at : ℕ) (t : Bool) → Of all (pick t (done (g s) at) (need (lacking n s start)))
      by s at true = tt
      by s at false = tt

  finished_gives : (f : List ℕ) (filter : Filter) (o : Option Stored) (start : ℕ) (h : StandardHeader) → Gives all (finished f filter o start h)
  unfolding finished
  finished_gives f filter o start h = search (giving, maybe_extended_gives, from_gives) depth 20

-- ---- 1: a declared length below the headers
module _ (all : List ℕ) (one : is_one_of 1 all ≡ true) where
  below_gives : Gives all (refuse {A = StandardHeader} 1)
  below_gives = refuse_gives all StandardHeader 1 one

  flagged_gives : (type counter long : ℕ) → Gives all (flagged type counter long)
  unfolding flagged
  flagged_gives type counter long = search (giving, ecu_gives, number_if_gives, below_gives) depth 20

  pub standard_gives : Gives all standard
  unfolding standard
  standard_gives = search (giving, flagged_gives) depth 20

  headers_gives : (f : List ℕ) (filter : Filter) (o : Option Stored) → Gives all (headers f filter o)
  unfolding headers
  headers_gives f filter o = search (giving, standard_gives, finished_gives) depth 20

  pub routed_gives : (f : List ℕ) (filter : Filter) (t : Bool) → Gives all (routed f filter t)
  unfolding routed
  routed_gives f filter t = search (giving, storage_gives, headers_gives) depth 20

-- ---- 2: a type info word that doesn't decode
module _ (all : List ℕ) (two : is_one_of 2 all ≡ true) where
  decoded_gives : (d : Result TypeInfo NoTypeInfo) → Gives all (decoded d)
  unfolding decoded
  decoded_gives (Ok t) = record { gives = λ s at. tt }
  decoded_gives (Err r) = record { gives = λ s at. two }

  type_info_gives : (big : Bool) → Gives all (type_info_of big)
  unfolding type_info_of
  type_info_gives big = search (giving, decoded_gives) depth 20

  pub argument_gives : (big : Bool) → Gives all (argument big)
  unfolding argument
  argument_gives big = search (giving, type_info_gives, kinded_gives) depth 20

  pub turn_gives : (c : Cursor) → Gives all (turn c)
  unfolding turn
  turn_gives c = search (giving, argument_gives) depth 20

  hand_out_gives : (big : Bool) (n : ℕ) (rest : Parser (Option HandedRaw)) → Gives all rest → (o : Option Range) → Gives all (hand_out_of big n rest o)
  hand_out_gives big n rest h (Some r) = search giving depth 20
  hand_out_gives big n rest h None = h

  pub raw_gives : (big : Bool) (n : ℕ) → Gives all (first_raw big n)
  unfolding first_raw
  raw_gives big zero = ret_gives all _
  raw_gives big (suc n) = then_gives all (argument big) _ (argument_gives big) (λ a. hand_out_gives big n _ (raw_gives big n) (raw_of_lem a.value))

  arguments_gives : (big : Bool) (n : ℕ) → Gives all (arguments big n)
  unfolding arguments
  arguments_gives big n = times_gives all n (argument big) (argument_gives big)

  verbose_gives : (big : Bool) (n : ℕ) (network : Bool) → Gives all (pay.verbose big n network)
  unfolding pay.verbose
  verbose_gives big n network = search (giving, arguments_gives) depth 20

  payload_gives : (big : Bool) (e : Option ExtendedHeader) (n : ℕ) → Gives all (payload big e n)
  unfolding payload
  payload_gives big e n = search (giving, verbose_gives, control_gives, run_gives) depth 20

  item_gives : (h : Headers) → Gives all (item h)
  unfolding item
  item_gives h = search (giving, payload_gives) depth 20

  pub body_gives : (h : Headers) → Gives all (body h)
  unfolding body
  body_gives h = search (giving, passed_gives, item_gives) depth 20

-- ---- 1 and 2: one message
pub message_gives : (all : List ℕ) → is_one_of 1 all ≡ true → is_one_of 2 all ≡ true → (f : List ℕ) (filter : Filter) (t : Bool) → Gives all (message f filter t)
unfolding message
message_gives all one two f filter t = then_gives all (routed f filter t) body (routed_gives all one f filter t) (body_gives all two)

pub confined_message_gives : (all : List ℕ) → is_one_of 1 all ≡ true → is_one_of 2 all ≡ true → (f : List ℕ) (filter : Filter) (t : Bool) → Gives all (confined_message_of f filter t)
unfolding confined_message_of confined_body_of inside
confined_message_gives all one two f filter t =
    then_gives all (routed f filter t) _ (routed_gives all one f filter t)
    (λ h. confined_gives all _ _ _ (then_gives all (body h) _ (body_gives all two h) (λ m. ret_gives all _)))

-- ---- 4: the pattern is missing
module _ (all : List ℕ) (four : is_one_of 4 all ≡ true) where
  one_byte : (t u : Bool) (x : Ans Unit) (n : ℕ) → Of all x → Of all (pick t (pick u x (hickup 4)) (need n))
  one_byte true true x n h = h
  one_byte true false x n h = four
  one_byte false u x n h = tt

  tagged_of : (p s : List ℕ) (at : ℕ) → Of all (tagged p s at)
  unfolding tagged
  tagged_of [] s at = tt
  tagged_of (b ∷ p) s at = one_byte (leb 1 (length s - at)) (eqb (get_or s at 0) b) (tagged p s (suc at)) (suc (length p)) (tagged_of p s (suc at))

  tagged_gives : (p : List ℕ) → Gives all (tagged p)
  tagged_gives p = record { gives = tagged_of p }

  pub skip_gives : Gives all skip
  unfolding skip
  skip_gives = search (giving, tagged_gives) depth 20

-- ---- 1 and 4: a message passed whole
module _ (all : List ℕ) (one : is_one_of 1 all ≡ true) (four : is_one_of 4 all ≡ true) where
  message_bytes_gives : (start n : ℕ) → Gives all (from start (bytes n))
  unfolding from
  message_bytes_gives start n = record { gives = λ s at. (bytes_gives all n).gives s start }

  whole_gives : Gives all whole
  unfolding whole
  whole_gives = search (giving, standard_gives, message_bytes_gives) depth 20

  pub consume_gives : Gives all consume
  unfolding consume
  consume_gives = record { gives = λ s at. by s at (leb 1 (length s - at)) }
    where
      by : (s : List ℕ) (at : ℕ) (t : Bool) → Of all (pick t ((skip >>= (λ lead. whole)) s at) (done None at))
      by s at true = (then_gives all skip (λ lead. whole) (skip_gives all four) (λ n. whole_gives)).gives s at
      by s at false = tt

-- ---- 2, 5, 6 and 7: signal data
module _ (all : List ℕ) (six : is_one_of 6 all ≡ true) (seven : is_one_of 7 all ≡ true) where
  utf8_gives : (n : ℕ) → Gives all (utf8 n)
  unfolding utf8
  utf8_gives n = having_gives all n _ (record { gives = λ s at. by s at (leb n (valid_up_to_of n s at)) })
    where
      by : (s : List ℕ) (at : ℕ) (t : Bool) → Of all (pick t (done (Value.StringVal (record { place = range at n; ended = Ended.Size })) (at + n)) (hickup 6))
      by s at true = tt
      by s at false = six

  width_gives : (w : FloatWidth) → Gives all (fixed_width w)
  unfolding fixed_width
  width_gives w = having_gives all _ _ (refuse_gives all Value 7 seven)

  data_gives : (big : Bool) (k : TypeInfoKind) → Gives all (signalling.content big k)
  unfolding signalling.content
  data_gives big TypeInfoKind.StringType = search (giving, utf8_gives) depth 20
  data_gives big TypeInfoKind.Raw = search giving depth 20
  data_gives big TypeInfoKind.Bool = search giving depth 20
  data_gives big (TypeInfoKind.Float w) = value_gives all big _
  data_gives big (TypeInfoKind.Signed w) = value_gives all big _
  data_gives big (TypeInfoKind.SignedFixedPoint w) = width_gives w
  data_gives big (TypeInfoKind.Unsigned w) = value_gives all big _
  data_gives big (TypeInfoKind.UnsignedFixedPoint w) = width_gives w

  in_data_gives : (big : Bool) (info : TypeInfo) → Gives all (in_data_of big info)
  unfolding in_data_of
  in_data_gives big info = search (giving, data_gives) depth 20

  module _ (two : is_one_of 2 all ≡ true) (five : is_one_of 5 all ≡ true) where
    closed_of : {A : Type 0} (x : Ans A) → Of all x → Of all (closed x)
    closed_of (done a b) h = tt
    closed_of (need n) h = five
    closed_of (hickup r) h = h
    closed_of broken h = tt

    closed_gives : {A : Type 0} (p : Parser A) → Gives all p → Gives all (signalling.whole p)
    unfolding signalling.whole
    closed_gives p h = record { gives = λ s at. closed_of (p s at) (h.gives s at) }

    pub signal_gives : (big : Bool) (word : ℕ) → Gives all (signal big word)
    unfolding signal
    signal_gives big word = then_gives all (decoded (type_info_of_lem word)) _ (decoded_gives all two (type_info_of_lem word)) (λ info. closed_gives _ (in_data_gives big info))

    signals_gives : (big : Bool) (words : List ℕ) → Gives all (signals big words)
    unfolding signals
    signals_gives big [] = ret_gives all tt
    signals_gives big (word ∷ words) = then_gives all (signal big word) _ (signal_gives big word) (λ a. signals_gives big words)

    pub construct_gives : (big : Bool) (words : List ℕ) → Gives all (constructed big words)
    unfolding constructed
    construct_gives big words = search (giving, signals_gives) depth 20

    pub signal_turn_gives : (words : List ℕ) (c : SignalCursor) → Gives all (signal_turn words c)
    unfolding signal_turn
    signal_turn_gives words c = search (giving, signal_gives) depth 20
