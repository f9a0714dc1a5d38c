-- The rules of specs/Skim.antt are those of an argument with nothing kept. Assumes nothing.
use Prim.Native.Nat.{ℕ, ◌+◌, ◌-◌}
use mathlib.Core.Path.{◌≡◌, refl, ap, ◌∙◌}
use mathlib.Core.Bool.{Bool, true, false}
use mathlib.Core.List.{List}
use native.Mathlib.Omega.{arith}
use lib.ListN.{length}
use lib.Dec.{leb}
use Rattle.wire.specs.Answer.{Ans, Parser}
use Rattle.wire.specs.Answer.Ans.{done, need, hickup, broken}
use Rattle.wire.specs.Parser.{pick, follow, ret, here, choose, asking, having, fixed, ◌>>=◌}
use Rattle.wire.specs.Number.{number, numeric}
use Rattle.wire.specs.Run.{bytes}
use Rattle.strings.specs.Text.{text, ended_text, text_need}
use Rattle.dlt.specs.TypeInfoWord.{wide_length, length_bytes, float_bytes}
use Rattle.dlt.specs.declared.FloatWidth.{FloatWidth}
use Rattle.dlt.specs.declared.TypeInfo.{TypeInfo}
use Rattle.dlt.specs.declared.TypeInfoKind.{TypeInfoKind}
use Rattle.dlt.specs.declared.Value.{Value}
use Rattle.values.specs.Value.{value, uint, sint, fint, unsigned_of, signed_of, float_of, offset, offset_of, fixed_point_of}
use Rattle.values.specs.declared.Numeric.{Numeric}
use Rattle.names.specs.Names.{name, maybe_name, texts, name_and_unit_of, maybe_names}
use Rattle.arguments.specs.Argument.{type_info_of, made, plain, scaled, boolean, content, sized, kinded, argument}
use Rattle.skim.specs.Skim.{passed, run, skim_text_of, skim_name_of, skim_texts_of, skim_names_of, skim_plain_of, skim_point_of, skim_scaled_of, skim_bool_of, skim_string_of, skim_raw_of, skim_kind, skim_argument_of}
use Rattle.std.specs.Prelude.{Option, Some, None}
use Rattle.dlt.specs.declared.FixedPoint.{FixedPoint}
use Rattle.wire.specs.declared.Text.{Text}

-- q is p with nothing kept
abbrev pub Skims : {A : Type 0} → Parser A → Parser Unit → Type 0
Skims p q = (s : List ℕ) (at : ℕ) → passed (p s at) ≡ q s at

-- ---- the combinators
followed : {A B : Type 0} (x : Ans A) (k : A → Parser B) (l : Parser Unit) (s : List ℕ) → ((a : A) → Skims (k a) l) → passed (follow x k s) ≡ follow (passed x) (λ u. l) s
followed (done a b) k l s h = h a s b
followed (need n) k l s h = refl
followed (hickup r) k l s h = refl
followed broken k l s h = refl

-- a value that nothing behind it asks for
behind : {A B : Type 0} (p : Parser A) (q : Parser Unit) (k : A → Parser B) (l : Parser Unit) → Skims p q → ((a : A) → Skims (k a) l) → Skims (p >>= k) (q >>= (λ u. l))
unfolding ◌>>=◌
behind p q k l e h s at = followed (p s at) k l s h ∙ ap (λ (x : Ans Unit). follow x (λ u. l) s) (e s at)

-- a value that stays
keeps : {A B : Type 0} (x : Ans A) (k : A → Parser B) (l : A → Parser Unit) (s : List ℕ) → ((a : A) → Skims (k a) (l a)) → passed (follow x k s) ≡ follow x l s
keeps (done a b) k l s h = h a s b
keeps (need n) k l s h = refl
keeps (hickup r) k l s h = refl
keeps broken k l s h = refl

read : {A B : Type 0} (p : Parser A) (k : A → Parser B) (l : A → Parser Unit) → ((a : A) → Skims (k a) (l a)) → Skims (p >>= k) (p >>= l)
unfolding ◌>>=◌
read p k l h s at = keeps (p s at) k l s h

-- the last of a rule: a value made of what was read, which takes no bytes
lasts : {A B : Type 0} (x : Ans A) (k : A → Parser B) (s : List ℕ) → ((a : A) → Skims (k a) (ret tt)) → passed (follow x k s) ≡ passed x
unfolding ret
lasts (done a b) k s h = h a s b
lasts (need n) k s h = refl
lasts (hickup r) k s h = refl
lasts broken k s h = refl

last : {A B : Type 0} (p : Parser A) (q : Parser Unit) (k : A → Parser B) → Skims p q → ((a : A) → Skims (k a) (ret tt)) → Skims (p >>= k) q
unfolding ◌>>=◌
last p q k e h s at = lasts (p s at) k s h ∙ e s at

gave : {A : Type 0} (a : A) → Skims (ret a) (ret tt)
unfolding ret
gave a s at = refl

both : {A : Type 0} (t : Bool) (p q : Parser A) (p' q' : Parser Unit) → Skims p p' → Skims q q' → Skims (choose t p q) (choose t p' q')
unfolding choose
both true p q p' q' e f s at = e s at
both false p q p' q' e f s at = f s at

picked : {A : Type 0} (t : Bool) (a : A) (b n : ℕ) → passed (pick t (done a b) (need n)) ≡ pick t (done tt b) (need n)
picked true a b n = refl
picked false a b n = refl

-- ---- the leaves
fixed_skims : {A : Type 0} (n : ℕ) (f : List ℕ → ℕ → A) → Skims (fixed n f) (run n)
unfolding run fixed having asking
fixed_skims n f s at = picked (leb n (length s - at)) (f s at) (at + n) (n - (length s - at))

number_skims : (big : Bool) (w : ℕ) → Skims (number big w) (run w)
unfolding number
number_skims big w = fixed_skims w _

numeric_skims : {A : Type 0} (m : ℕ → A) (big : Bool) (w : ℕ) → Skims (numeric m big w) (run w)
unfolding numeric
numeric_skims m big w = last (number big w) (run w) (λ n. ret (m n)) (number_skims big w) (λ n. gave (m n))

bytes_skims : (n : ℕ) → Skims (bytes n) (run n)
unfolding bytes
bytes_skims n = fixed_skims n _

pub text_skims : (n : ℕ) → Skims (text n) (skim_text_of n)
unfolding text skim_text_of asking
text_skims n s at = picked (leb n (length s - at)) (ended_text n s at) (at + n) (text_need n s at)

-- ---- the names
name_skims : (big : Bool) → Skims (name big) (number big 2 >>= (λ n. skim_text_of n))
unfolding name
name_skims big = read (number big 2) (λ n. text n) (λ n. skim_text_of n) text_skims

maybe_name_skims : (info big : Bool) → Skims (maybe_name info big) (skim_name_of info big)
unfolding maybe_name skim_name_of
maybe_name_skims info big =
    both info (name big >>= (λ v. ret (Some v))) (ret None) (number big 2 >>= (λ n. skim_text_of n)) (ret tt)
    (last (name big) (number big 2 >>= (λ n. skim_text_of n)) (λ v. ret (Some v)) (name_skims big) (λ v. gave (Some v)))
    (gave None)

texts_skims : (a b : ℕ) → Skims (texts a b) (skim_texts_of a b)
unfolding texts skim_texts_of
texts_skims a b = behind (text a) (skim_text_of a) _ (skim_text_of b) (text_skims a) (λ n. last (text b) (skim_text_of b) _ (text_skims b) (λ u. gave _))

maybe_names_skims : (info big : Bool) → Skims (maybe_names info big) (skim_names_of info big)
unfolding maybe_names name_and_unit_of skim_names_of
maybe_names_skims info big =
    both info _ _ _ (ret tt)
    (read (number big 2) _ _ (λ a. read (number big 2) _ _ (λ b. texts_skims a b)))
    (gave _)

-- ---- the values
abbrev width : Numeric → ℕ
width (Numeric.Unsigned w) = length_bytes w
width (Numeric.Signed w) = length_bytes w
width (Numeric.Float w) = float_bytes w

value_skims : (big : Bool) (n : Numeric) → Skims (value big n) (run (width n))
unfolding value uint sint fint
value_skims big (Numeric.Unsigned w) = numeric_skims (unsigned_of w) big (length_bytes w)
value_skims big (Numeric.Signed w) = numeric_skims (signed_of w) big (length_bytes w)
value_skims big (Numeric.Float w) = numeric_skims (float_of w) big (float_bytes w)

point_skims : (big : Bool) (w : FloatWidth) → Skims (fixed_point_of big w) (skim_point_of (float_bytes w))
unfolding fixed_point_of skim_point_of offset
point_skims big w =
    behind (number big 4) (run 4) _ (run (float_bytes w)) (number_skims big 4)
    (λ n. last (numeric (offset_of w) big (float_bytes w)) (run (float_bytes w)) _ (numeric_skims (offset_of w) big (float_bytes w)) (λ u. gave _))

made_skims : (start : ℕ) (info : TypeInfo) (a b : Option Text) (p : Option FixedPoint) (v : Value) → Skims (made start info a b p v) (ret tt)
unfolding ◌>>=◌ here ret
made_skims start info a b p v s at = refl

-- ---- the kinds
plain_skims : (big : Bool) (start : ℕ) (info : TypeInfo) (n : Numeric) → Skims (plain big start info n) (skim_plain_of info.has_variable_info (width n) big)
unfolding plain skim_plain_of
plain_skims big start info n =
    behind (maybe_names info.has_variable_info big) (skim_names_of info.has_variable_info big) _ (run (width n)) (maybe_names_skims info.has_variable_info big)
    (λ a. last (value big n) (run (width n)) _ (value_skims big n) (λ v. made_skims start info a.name a.unit None v))

wide_same : (w : FloatWidth) → length_bytes (wide_length w) ≡ float_bytes w
wide_same FloatWidth.Width32 = refl
wide_same FloatWidth.Width64 = refl

scaled_skims : (big : Bool) (start : ℕ) (info : TypeInfo) (w : FloatWidth) (n : Numeric) → width n ≡ float_bytes w
    → Skims (scaled big start info w n) (skim_scaled_of info.has_variable_info (float_bytes w) big)
unfolding scaled skim_scaled_of
scaled_skims big start info w n e =
    behind (maybe_names info.has_variable_info big) (skim_names_of info.has_variable_info big) _ (skim_point_of (float_bytes w) >>= (λ u. run (float_bytes w)))
    (maybe_names_skims info.has_variable_info big)
    (λ a.
    behind (fixed_point_of big w) (skim_point_of (float_bytes w)) _ (run (float_bytes w)) (point_skims big w)
    (λ p. last (value big n) (run (float_bytes w)) _ (λ s at. value_skims big n s at ∙ ap (λ (k : ℕ). run k s at) e) (λ v. made_skims start info a.name a.unit (Some p) v)))

bool_skims : (big : Bool) (start : ℕ) (info : TypeInfo) → Skims (boolean big start info) (skim_bool_of info.has_variable_info big)
unfolding boolean skim_bool_of
bool_skims big start info =
    behind (maybe_name info.has_variable_info big) (skim_name_of info.has_variable_info big) _ (run 1) (maybe_name_skims info.has_variable_info big)
    (λ a. last (number true 1) (run 1) _ (number_skims true 1) (λ v. made_skims start info a None None (Value.Bool v)))

-- a value of n bytes: raw, or a string
raw_content_lem : (n : ℕ) → Skims (content true n) (run n)
unfolding content choose
raw_content_lem n = last (bytes n) (run n) (λ v. ret (Value.Raw v)) (bytes_skims n) (λ v. gave (Value.Raw v))

text_content : (n : ℕ) → Skims (content false n) (skim_text_of n)
unfolding content choose
text_content n = last (text n) (skim_text_of n) (λ v. ret (Value.StringVal v)) (text_skims n) (λ v. gave (Value.StringVal v))

string_skims : (big : Bool) (start : ℕ) (info : TypeInfo) → Skims (sized false big start info) (skim_string_of info.has_variable_info big)
unfolding sized skim_string_of
string_skims big start info =
    read (number big 2) _ _
    (λ n.
    behind (maybe_name info.has_variable_info big) (skim_name_of info.has_variable_info big) _ (skim_text_of n) (maybe_name_skims info.has_variable_info big)
    (λ a. last (content false n) (skim_text_of n) _ (text_content n) (λ v. made_skims start info a None None v)))

raw_skims : (big : Bool) (start : ℕ) (info : TypeInfo) → Skims (sized true big start info) (skim_raw_of info.has_variable_info big)
unfolding sized skim_raw_of
raw_skims big start info =
    read (number big 2) _ _
    (λ n.
    behind (maybe_name info.has_variable_info big) (skim_name_of info.has_variable_info big) _ (run n) (maybe_name_skims info.has_variable_info big)
    (λ a. last (content true n) (run n) _ (raw_content_lem n) (λ v. made_skims start info a None None v)))

kind_skims : (big : Bool) (start : ℕ) (info : TypeInfo) (k : TypeInfoKind) → Skims (kinded big start info k) (skim_kind big info.has_variable_info k)
unfolding kinded skim_kind
kind_skims big start info (TypeInfoKind.Signed w) = plain_skims big start info (Numeric.Signed w)
kind_skims big start info (TypeInfoKind.SignedFixedPoint w) = scaled_skims big start info w (Numeric.Signed (wide_length w)) (wide_same w)
kind_skims big start info (TypeInfoKind.Unsigned w) = plain_skims big start info (Numeric.Unsigned w)
kind_skims big start info (TypeInfoKind.UnsignedFixedPoint w) = scaled_skims big start info w (Numeric.Unsigned (wide_length w)) (wide_same w)
kind_skims big start info (TypeInfoKind.Float w) = plain_skims big start info (Numeric.Float w)
kind_skims big start info TypeInfoKind.Raw = raw_skims big start info
kind_skims big start info TypeInfoKind.Bool = bool_skims big start info
kind_skims big start info TypeInfoKind.StringType = string_skims big start info

then_here : (big : Bool) (s : List ℕ) (at : ℕ) → passed (argument big s at) ≡ passed ((type_info_of big >>= (λ info. kinded big at info info.kind)) s at)
unfolding argument ◌>>=◌ here
then_here big s at = refl

-- THE THEOREM: an argument passed is that argument, with nothing kept
pub skim_same : (big : Bool) → Skims (argument big) (skim_argument_of big)
unfolding skim_argument_of
skim_same big s at = then_here big s at ∙ read (type_info_of big) _ _ (λ info. kind_skims big at info info.kind) s at

-- ---- what is known of an answer from the same with nothing kept
abbrev place : Ans Unit → ℕ
place (done u k) = k
place (need n) = n
place (hickup r) = r
place broken = 0

abbrev sort : Ans Unit → ℕ
sort (done u k) = 0
sort (need n) = 1
sort (hickup r) = 2
sort broken = 3

module _ {A : Type 0} where
  pub was_done : (x : Ans A) (b : ℕ) → passed x ≡ done tt b → (a : A) × (x ≡ done a b)
  was_done (done a k) b e = (a, ap (λ (y : Ans Unit). done a (place y)) e)
  was_done (need n) b e = absurd (omega (arith, ap sort e))
  was_done (hickup r) b e = absurd (omega (arith, ap sort e))
  was_done broken b e = absurd (omega (arith, ap sort e))

  pub was_need : (x : Ans A) (b : ℕ) → passed x ≡ need b → x ≡ need b
  was_need (done a k) b e = absurd (omega (arith, ap sort e))
  was_need (need n) b e = ap (λ (y : Ans Unit). need (place y)) e
  was_need (hickup r) b e = absurd (omega (arith, ap sort e))
  was_need broken b e = absurd (omega (arith, ap sort e))

  pub was_hickup : (x : Ans A) (b : ℕ) → passed x ≡ hickup b → x ≡ hickup b
  was_hickup (done a k) b e = absurd (omega (arith, ap sort e))
  was_hickup (need n) b e = absurd (omega (arith, ap sort e))
  was_hickup (hickup r) b e = ap (λ (y : Ans Unit). hickup (place y)) e
  was_hickup broken b e = absurd (omega (arith, ap sort e))
