-- The message rule is steps 2 to 4 with steps 5 and 6 behind them; and steps 2 to 4 keep the laws of a rule.
use Prim.Native.Nat.{ℕ}
use native.Mathlib.Omega.{arith}
use mathlib.Core.Path.{◌≡◌, refl, sym, ◌∙◌}
use mathlib.Core.Bool.{Bool, true, false}
use mathlib.Core.List.{List}
use lib.ListN.{length}
use Rattle.wire.specs.Answer.{Ans, Parser}
use Rattle.wire.specs.Answer.Ans.{done, need, hickup, broken}
use Rattle.wire.specs.Parser.{follow, ret, here, choose, ◌>>=◌}
use Rattle.wire.specs.Lawful.{Lawful}
use Rattle.wire.proofs.Laws.{choose_law}
use Rattle.wire.proofs.Rules.{laws}
use Rattle.wire.proofs.Step.{then_done, then_need, ret_is, here_is}
use Rattle.headertype.specs.HeaderType.{overall_length_of}
use Rattle.headertype.specs.declared.StandardHeader.{StandardHeader}
use Rattle.headers.specs.Standard.{standard}
use Rattle.headers.proofs.Laws.{standard_law}
use Rattle.storage.specs.Storage.{storage}
use Rattle.storage.proofs.Laws.{storage_law}
use Rattle.filter.specs.declared.Filter.{Filter}
use Rattle.parse.specs.Message.{having_from, seen, maybe_extended_of, headers_of_lem, finished, headers, routed}
use Rattle.parse.specs.declared.Headers.{Headers}
use Rattle.parse.proofs.Nothing.{standard_of_nothing}
use Rattle.facts.proofs.Laws.{maybe_extended_law}
use Rattle.worth.specs.Opening.{Opening, opening_behind, opening}
use Rattle.std.specs.Prelude.{Option, None}
use Rattle.storage.specs.declared.Stored.{Stored}

-- ---- one rule after another
module _ {A B C : Type 0} (p : Parser A) (k : A → Parser B) (m : B → Parser C) (s : List ℕ) (at : ℕ) where
  assoc : ((p >>= k) >>= m) s at ≡ (p >>= (λ a. k a >>= m)) s at
  unfolding ◌>>=◌
  assoc = by (p s at)
    where
      by : (x : Ans A) → follow (follow x k s) m s ≡ follow x (λ a. λ s at. follow (k a s at) m s) s
      by (done a b) = refl
      by (need n) = refl
      by (hickup r) = refl
      by broken = refl

module _ {A B : Type 0} (p : Parser A) (k m : A → Parser B) (s : List ℕ) (at : ℕ) where
  then_same : ((a : A) (b : ℕ) → k a s b ≡ m a s b) → (p >>= k) s at ≡ (p >>= m) s at
  unfolding ◌>>=◌
  then_same e = by (p s at)
    where
      by : (x : Ans A) → follow x k s ≡ follow x m s
      by (done a b) = e a b
      by (need n) = refl
      by (hickup r) = refl
      by broken = refl

-- ---- steps 5 and 6, behind those
module _ (f : List ℕ) (filter : Filter) where
  unfoldable pub check : Opening → Parser Headers
  check l = having_from l.start (overall_length_of l.header) (seen (headers_of_lem f filter l.stored l.header l.extended))

  finished_is : (o : Option Stored) (start : ℕ) (h : StandardHeader) (s : List ℕ) (at : ℕ)
      → finished f filter o start h s at ≡ ((maybe_extended_of h.has_extended_header >>= (λ e. ret (record { stored = o; start = start; header = h; extended = e }))) >>= check) s at
  unfolding finished check
  finished_is o start h s at =
      sym (assoc (maybe_extended_of h.has_extended_header) _ check s at
      ∙ then_same (maybe_extended_of h.has_extended_header) _ _ s at (λ e b. then_done (ret _) check s b (ret_is _ s b)))

  headers_is : (o : Option Stored) (s : List ℕ) (at : ℕ) → headers f filter o s at ≡ (opening_behind o >>= check) s at
  unfolding headers opening_behind
  headers_is o s at =
      then_done here _ s at (here_is s at)
      ∙ then_same standard _ _ s at (λ h b. finished_is o at h s b)
      ∙ sym (assoc standard _ check s at)
      ∙ sym (then_done here _ s at (here_is s at))
      ∙ sym (assoc here _ check s at)

  pub routed_is : (t : Bool) (s : List ℕ) (at : ℕ) → routed f filter t s at ≡ (opening t >>= check) s at
  unfolding routed opening choose
  routed_is true s at = then_same storage _ _ s at (λ o b. headers_is o s b) ∙ sym (assoc storage opening_behind check s at)
  routed_is false s at = headers_is None s at

-- ---- the law of steps 2 to 4
behind_law : (o : Option Stored) → Lawful (opening_behind o)
unfolding opening_behind
behind_law o = search (laws, standard_law, maybe_extended_law) depth 20

pub behind_nothing : (s : List ℕ) → opening_behind None s (length s) ≡ need 1
unfolding opening_behind
behind_nothing s = then_done here _ s (length s) (here_is s (length s)) ∙ then_need standard _ s (length s) (standard_of_nothing s (length s) (omega arith))

pub opening_law : (t : Bool) → Lawful (opening t)
unfolding opening
opening_law t = choose_law t _ _ (storage_law opening_behind behind_law behind_nothing) (behind_law None)
