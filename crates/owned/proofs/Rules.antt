-- Each rule of the message but the search for the pattern and step 5 is thrifty: by composition. Assumes nothing.
use Prim.Native.Nat.{ℕ}
use mathlib.Core.Bool.{Bool}
use Rattle.wire.specs.Parser.{ret, refuse}
use Rattle.headers.specs.Standard.{maybe_id, maybe_number_of, flagged, standard}
use Rattle.headers.specs.Extended.{named, extended}
use Rattle.storage.specs.Storage.{owned, stored}
use Rattle.std.specs.Prelude.{Result, Ok, Err, Option}
use Rattle.dlt.specs.declared.NoTypeInfo.{NoTypeInfo}
use Rattle.dlt.specs.declared.TypeInfo.{TypeInfo}
use Rattle.dlt.specs.declared.FloatWidth.{FloatWidth}
use Rattle.dlt.specs.declared.TypeInfoKind.{TypeInfoKind}
use Rattle.values.specs.Value.{uint, sint, fint, value, offset, fixed_point_of}
use Rattle.values.specs.declared.Numeric.{Numeric}
use Rattle.names.specs.Names.{name, maybe_name, texts, name_and_unit_of, maybe_names}
use Rattle.arguments.specs.Argument.{decoded, type_info_of, plain, scaled, boolean, content, sized, kinded, argument}
use Rattle.cursor.specs.Cursor.{arguments}
use Rattle.payload.specs.Payload as pay
use Rattle.payload.specs.Payload.{payload}
use Rattle.parse.specs.Message.{maybe_extended_of, passed, item, body}
use Rattle.parse.specs.declared.Headers.{Headers}
use Rattle.worth.specs.Opening.{opening_behind}
use Rattle.confined.specs.Confined.{inside}
use Rattle.owned.specs.Thrifty.{Both}
use Rattle.owned.proofs.Thrifty.{ret_both, refuse_both, numeric_both, thrift}
use Rattle.storage.specs.declared.Stored.{Stored}
use Rattle.messageinfo.specs.declared.ExtendedHeader.{ExtendedHeader}

-- ---- the headers
maybe_id_both : (t : Bool) → Both (maybe_id t)
unfolding maybe_id
maybe_id_both t = search thrift depth 20

maybe_number_both : (t : Bool) → Both (maybe_number_of t)
unfolding maybe_number_of
maybe_number_both t = search thrift depth 20

flagged_both : (type counter long : ℕ) → Both (flagged type counter long)
unfolding flagged
flagged_both type counter long = search (thrift, maybe_id_both, maybe_number_both) depth 20

pub standard_both : Both standard
unfolding standard
standard_both = search (thrift, flagged_both) depth 20

named_both : (info count : ℕ) → Both (named info count)
unfolding named
named_both info count = search thrift depth 20

pub extended_both : Both extended
unfolding extended
extended_both = search (thrift, named_both) depth 20

pub maybe_extended_both : (t : Bool) → Both (maybe_extended_of t)
unfolding maybe_extended_of
maybe_extended_both t = search (thrift, extended_both) depth 20

pub behind_both : (o : Option Stored) → Both (opening_behind o)
unfolding opening_behind
behind_both o = search (thrift, standard_both, maybe_extended_both) depth 20

owned_both : (skipped seconds micros : ℕ) → Both (owned skipped seconds micros)
unfolding owned
owned_both skipped seconds micros = search thrift depth 20

pub stored_both : (skipped : ℕ) → Both (stored skipped)
unfolding stored
stored_both skipped = search (thrift, owned_both) depth 20

-- ---- the arguments
value_both : (big : Bool) (sort : Numeric) → Both (value big sort)
unfolding value uint sint fint
value_both big (Numeric.Unsigned w) = numeric_both _ big _
value_both big (Numeric.Signed w) = numeric_both _ big _
value_both big (Numeric.Float w) = numeric_both _ big _

offset_both : (big : Bool) (w : FloatWidth) → Both (offset big w)
unfolding offset
offset_both big w = numeric_both _ big _

point_both : (big : Bool) (w : FloatWidth) → Both (fixed_point_of big w)
unfolding fixed_point_of
point_both big w = search (thrift, offset_both) depth 20

name_both : (big : Bool) → Both (name big)
unfolding name
name_both big = search thrift depth 20

maybe_name_both : (info big : Bool) → Both (maybe_name info big)
unfolding maybe_name
maybe_name_both info big = search (thrift, name_both) depth 20

texts_both : (a b : ℕ) → Both (texts a b)
unfolding texts
texts_both a b = search thrift depth 20

name_and_unit_both : (big : Bool) → Both (name_and_unit_of big)
unfolding name_and_unit_of
name_and_unit_both big = search (thrift, texts_both) depth 20

names_both : (info big : Bool) → Both (maybe_names info big)
unfolding maybe_names
names_both info big = search (thrift, name_and_unit_both) depth 20

decoded_both : (d : Result TypeInfo NoTypeInfo) → Both (decoded d)
unfolding decoded ret refuse
decoded_both (Ok i) = ret_both i
decoded_both (Err r) = refuse_both 2

type_info_both : (big : Bool) → Both (type_info_of big)
unfolding type_info_of
type_info_both big = search (thrift, decoded_both) depth 20

ruleset parts = (thrift, maybe_name_both, names_both, value_both, point_both)

module _ (big : Bool) (start : ℕ) (info : TypeInfo) where
  plain_both : (sort : Numeric) → Both (plain big start info sort)
  unfolding plain
  plain_both sort = search parts depth 20

  scaled_both : (w : FloatWidth) (sort : Numeric) → Both (scaled big start info w sort)
  unfolding scaled
  scaled_both w sort = search parts depth 20

  kinded_both : (k : TypeInfoKind) → Both (kinded big start info k)
  unfolding kinded boolean content sized
  kinded_both (TypeInfoKind.Signed w) = plain_both _
  kinded_both (TypeInfoKind.SignedFixedPoint w) = scaled_both w _
  kinded_both (TypeInfoKind.Unsigned w) = plain_both _
  kinded_both (TypeInfoKind.UnsignedFixedPoint w) = scaled_both w _
  kinded_both (TypeInfoKind.Float w) = plain_both _
  kinded_both TypeInfoKind.Raw = search parts depth 20
  kinded_both TypeInfoKind.Bool = search parts depth 20
  kinded_both TypeInfoKind.StringType = search parts depth 20

pub argument_both : (big : Bool) → Both (argument big)
unfolding argument
argument_both big = search (thrift, type_info_both, kinded_both) depth 20

pub arguments_both : (big : Bool) (n : ℕ) → Both (arguments big n)
unfolding arguments
arguments_both big n = search (thrift, argument_both) depth 20

-- ---- the payload
verbose_both : (big : Bool) (n : ℕ) (network : Bool) → Both (pay.verbose big n network)
unfolding pay.verbose
verbose_both big n network = search (thrift, arguments_both) depth 20

control_both : (n : ℕ) → Both (pay.control n)
unfolding pay.control
control_both n = search thrift depth 20

run_both : (big : Bool) (n : ℕ) → Both (pay.plain big n)
unfolding pay.plain
run_both big n = search thrift depth 20

pub payload_both : (big : Bool) (e : Option ExtendedHeader) (n : ℕ) → Both (payload big e n)
unfolding payload
payload_both big e n = search (thrift, verbose_both, control_both, run_both) depth 20

passed_both : (n : ℕ) → Both (passed n)
unfolding passed
passed_both n = search thrift depth 20

item_both : (h : Headers) → Both (item h)
unfolding item
item_both h = search (thrift, payload_both) depth 20

pub body_both : (h : Headers) → Both (body h)
unfolding body
body_both h = search (thrift, passed_both, item_both) depth 20

pub inside_both : (h : Headers) → Both (inside h)
unfolding inside
inside_both h = search (thrift, body_both) depth 20
