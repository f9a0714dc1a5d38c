-- The groups of an argument's numbers, as the calls leave them (Rows.antt has those of a message). Assumes nothing.
use Prim.Native.Nat.{ℕ, ◌≤◌, ◌<◌}
use mathlib.Core.Path.{◌≡◌, refl, ◌∙◌}
use mathlib.Core.Bool.{Bool}
use mathlib.Core.List.{List, [], ◌∷◌, ◌++◌}
use native.Mathlib.Omega.{arith}
use lib.ListN.{length, length-append}
use borrow.Author.Tests.{le-leb, lt-leb}
use Rattle.table.specs.Over.{over}
use Rattle.wire.specs.declared.Range.{Range}
use Rattle.cursor.specs.declared.RawCursor.{RawCursor}
use Rattle.dlt.specs.declared.Argument.{Argument}
use Rattle.dlt.specs.declared.FixedPoint.{FixedPoint}
use Rattle.dlt.specs.declared.TypeInfo.{TypeInfo}
use Rattle.dlt.specs.declared.TypeInfoKind.{TypeInfoKind}
use Rattle.dlt.specs.declared.Value.{Value}
use Rattle.numbers.specs.Layout.{one_if_of, text_numbers, text_end_of}
use Rattle.numbers.specs.Arguments.{kind_number_of, kind_bits_of, coding_number_of, value_number_of, value_first_of, value_second_of, value_end_of, offset_width_of, offset_bits_of, kind_numbers, coding_numbers, point_numbers, value_numbers, type_numbers, name_numbers, content_numbers, argument_ends, argument_numbers, argument_laid}
use Rattle.numbers.specs.Raw.{raw_numbers, raw_laid}
use Rattle.numbers.proofs.Rows.{joined, three_groups, four_groups, texts}
use Rattle.std.specs.Prelude.{Option, Some, None}
use Rattle.wire.specs.declared.Text.{Text}

-- ---- where calls gave the numbers: x, y and z
module _ (T X : List ℕ) (j x y z : ℕ) where
  pub kind_row : (k : TypeInfoKind) → x ≡ kind_number_of k → y ≡ kind_bits_of k → X ≡ over T j (x ∷ y ∷ []) → X ≡ over T j (kind_numbers k)
  unfolding kind_numbers
  kind_row k ex ey h = h ∙ rw (ex, ey)

  pub coding_row : (t : TypeInfo) → x ≡ coding_number_of t.coding → y ≡ one_if_of t.has_variable_info → z ≡ one_if_of t.has_trace_info → X ≡ over T j (x ∷ y ∷ z ∷ []) → X ≡ over T j (coding_numbers t)
  unfolding coding_numbers
  coding_row t ex ey ez h = h ∙ rw (ex, ey, ez)

  pub point_row : (o : Option FixedPoint) (p : FixedPoint) → o ≡ Some p → x ≡ offset_width_of p.offset → y ≡ offset_bits_of p.offset → X ≡ over T j (1 ∷ p.pattern ∷ x ∷ y ∷ []) → X ≡ over T j (point_numbers o)
  unfolding point_numbers
  point_row o p q ex ey h = h ∙ rw (q, ex, ey)

  pub value_row : (v : Value) → x ≡ value_number_of v → y ≡ value_first_of v → z ≡ value_second_of v → X ≡ over T j (x ∷ y ∷ z ∷ []) → X ≡ over T j (value_numbers v)
  unfolding value_numbers
  value_row v ex ey ez h = h ∙ rw (ex, ey, ez)

  pub argument_ends_row : (a : Argument) → x ≡ text_end_of a.name → y ≡ text_end_of a.unit → z ≡ value_end_of a.value → X ≡ over T j (x ∷ y ∷ z ∷ []) → X ≡ over T j (argument_ends a)
  unfolding argument_ends
  argument_ends_row a ex ey ez h = h ∙ rw (ex, ey, ez)

pub no_point : (T X : List ℕ) (j : ℕ) (o : Option FixedPoint) → o ≡ None → X ≡ over T j (0 ∷ 0 ∷ 0 ∷ 0 ∷ []) → X ≡ over T j (point_numbers o)
unfolding point_numbers
no_point T X j o q h = h ∙ rw q

-- ---- how many numbers a group has
points : (o : Option FixedPoint) → length (point_numbers o) ≡ 4
unfolding point_numbers
points (Some p) = refl
points None = refl

kinds : (k : TypeInfoKind) → length (kind_numbers k) ≡ 2
unfolding kind_numbers
kinds k = refl

codings : (t : TypeInfo) → length (coding_numbers t) ≡ 3
unfolding coding_numbers
codings t = refl

names : (n u : Option Text) → length (name_numbers n u) ≡ 6
unfolding name_numbers
names n u = omega (arith, length-append (text_numbers n) (text_numbers u), texts n, texts u)

types : (a : Argument) → length (type_numbers a) ≡ 7
unfolding type_numbers
types a =
    let v : List ℕ = a.start ∷ a.end ∷ [] in
    let k = kind_numbers a.type_info.kind in
    omega (arith, length-append v k, length-append (v ++ k) (coding_numbers a.type_info), kinds a.type_info.kind, codings a.type_info)

values : (v : Value) → length (value_numbers v) ≡ 3
unfolding value_numbers
values v = refl

contents : (a : Argument) → length (content_numbers a) ≡ 13
unfolding content_numbers
contents a =
    let n = name_numbers a.name a.unit in
    let p = point_numbers a.fixed_point in
    omega (arith, length-append n p, length-append (n ++ p) (value_numbers a.value), names a.name a.unit, points a.fixed_point, values a.value)

-- ---- groups behind one another
pub names_row : (T A B : List ℕ) (n u : Option Text) → 26 ≤ length T → A ≡ over T 10 (text_numbers n) → B ≡ over A 13 (text_numbers u) → B ≡ over T 10 (name_numbers n u)
unfolding name_numbers
names_row T A B n u fits p q = joined T A B (text_numbers n) (text_numbers u) 10 13 p q (omega (arith, texts n)) (omega arith)

module _ (T A B C : List ℕ) (a : Argument) (fits : 26 ≤ length T) where
  pub type_row : A ≡ over T 3 (a.start ∷ a.end ∷ []) → B ≡ over A 5 (kind_numbers a.type_info.kind) → C ≡ over B 7 (coding_numbers a.type_info) → C ≡ over T 3 (type_numbers a)
  unfolding type_numbers
  type_row p q r =
      let v : List ℕ = a.start ∷ a.end ∷ [] in
      three_groups T A B C v (kind_numbers a.type_info.kind) (coding_numbers a.type_info) 3 5 7 p q r refl
      (omega (arith, kinds a.type_info.kind)) (omega arith)

  pub content_row : A ≡ over T 10 (name_numbers a.name a.unit) → B ≡ over A 16 (point_numbers a.fixed_point) → C ≡ over B 20 (value_numbers a.value) → C ≡ over T 10 (content_numbers a)
  unfolding content_numbers
  content_row p q r =
      three_groups T A B C (name_numbers a.name a.unit) (point_numbers a.fixed_point) (value_numbers a.value) 10 16 20 p q r
      (omega (arith, names a.name a.unit)) (omega (arith, points a.fixed_point)) (omega arith)

-- x is what `flag` gave
pub cursor_row : (T X : List ℕ) (at left x : ℕ) (big : Bool) → x ≡ one_if_of big → X ≡ over T 0 (at ∷ left ∷ x ∷ []) → X ≡ over T 0 (at ∷ left ∷ one_if_of big ∷ [])
cursor_row T X at left x big e h = h ∙ rw e

-- ---- the whole, where it fits and where it doesn't
module _ (T : List ℕ) (at left : ℕ) (big : Bool) (a : Argument) where
  pub argument_fits : (A B C D : List ℕ) → 26 ≤ length T → A ≡ over T 0 (at ∷ left ∷ one_if_of big ∷ []) → B ≡ over A 3 (type_numbers a) → C ≡ over B 10 (content_numbers a)
      → D ≡ over C 23 (argument_ends a) → D ≡ argument_laid T at left big a
  unfolding argument_laid argument_numbers
  argument_fits A B C D h p q r s =
      let v : List ℕ = at ∷ left ∷ one_if_of big ∷ [] in
      four_groups T A B C D v (type_numbers a) (content_numbers a) (argument_ends a) 0 3 10 23 p q r s refl (omega (arith, types a)) (omega (arith, contents a)) (omega arith)
      ∙ rw (le-leb 26 (length T) h)

  pub argument_short : length T < 26 → T ≡ argument_laid T at left big a
  unfolding argument_laid
  argument_short h = rw (lt-leb 26 (length T) h)

-- a raw value; x is what `flag` gave
module _ (T X : List ℕ) (c : RawCursor) (r : Range) where
  pub raw_fits : (x : ℕ) → 5 ≤ length T → x ≡ one_if_of c.big → X ≡ over T 0 (c.at ∷ c.left ∷ x ∷ r.start ∷ r.len ∷ []) → X ≡ raw_laid T c r
  unfolding raw_laid raw_numbers
  raw_fits x h e p = p ∙ rw (e, le-leb 5 (length T) h)

  pub raw_short : length T < 5 → T ≡ raw_laid T c r
  unfolding raw_laid
  raw_short h = rw (lt-leb 5 (length T) h)

pub ruleset groups = (raw_fits, raw_short, kind_row, coding_row, point_row, value_row, argument_ends_row, no_point, names_row, type_row, content_row, cursor_row, argument_fits, argument_short)
