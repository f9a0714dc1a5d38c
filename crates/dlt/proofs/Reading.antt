-- What `search` is handed for the functions of this crate: a lemma for each way through a rule, whose premises are what a place of the code knows.
use Prim.Native.Nat.{ℕ}
use mathlib.Core.Path.{◌≡◌, sym, ap, ◌∙◌}
use mathlib.Core.Bool.{Bool, true, false}
use Rattle.wire.specs.Parser.{pick}
use Rattle.dlt.specs.TypeInfoWord.{sized, float_sized, decoded_of}
use Rattle.dlt.specs.declared.TypeLength.{TypeLength}
use Rattle.dlt.specs.declared.FloatWidth.{FloatWidth}
use Rattle.dlt.specs.declared.TypeInfoKind.{TypeInfoKind}
use Rattle.std.specs.Prelude.{Result, Err, Option, Some, None}
use Rattle.dlt.specs.declared.NoTypeInfo.{NoTypeInfo}
use Rattle.dlt.specs.declared.TypeInfo.{TypeInfo}

-- ---- one of two by a test
pub at_true : (x a b : Option TypeInfoKind) (t : Bool) → t ≡ true → x ≡ a → x ≡ pick t a b
at_true x a b t e f = rw e f

pub at_false : (x a b : Option TypeInfoKind) (t : Bool) → t ≡ false → x ≡ b → x ≡ pick t a b
at_false x a b t e f = rw e f

-- ---- a kind by its width
pub with_width : (k : TypeLength → TypeInfoKind) (x : Option TypeInfoKind) (r o : Option TypeLength) (w : TypeLength) → r ≡ o → r ≡ Some w → x ≡ Some (k w) → x ≡ sized k o
with_width k x r o w e q f = f ∙ ap (sized k) (sym q ∙ e)

pub no_width : (k : TypeLength → TypeInfoKind) (r o : Option TypeLength) → r ≡ o → r ≡ None → None ≡ sized k o
no_width k r o e q = ap (sized k) (sym q ∙ e)

pub with_float : (k : FloatWidth → TypeInfoKind) (x : Option TypeInfoKind) (r o : Option FloatWidth) (w : FloatWidth) → r ≡ o → r ≡ Some w → x ≡ Some (k w) → x ≡ float_sized k o
with_float k x r o w e q f = f ∙ ap (float_sized k) (sym q ∙ e)

pub no_float : (k : FloatWidth → TypeInfoKind) (r o : Option FloatWidth) → r ≡ o → r ≡ None → None ≡ float_sized k o
no_float k r o e q = ap (float_sized k) (sym q ∙ e)

-- ---- a word by its kind
pub with_kind : (word : ℕ) (x : Result TypeInfo NoTypeInfo) (r o : Option TypeInfoKind) (k : TypeInfoKind) → r ≡ o → r ≡ Some k → x ≡ decoded_of word (Some k) → x ≡ decoded_of word o
with_kind word x r o k e q f = f ∙ ap (decoded_of word) (sym q ∙ e)

pub no_kind : (word : ℕ) (r o : Option TypeInfoKind) → r ≡ o → r ≡ None → Err (record {}) ≡ decoded_of word o
no_kind word r o e q = ap (decoded_of word) (sym q ∙ e)

pub ruleset dlt-reading = (at_true, at_false, with_width, no_width, with_float, no_float, with_kind, no_kind)
