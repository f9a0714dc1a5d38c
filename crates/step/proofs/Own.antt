-- An entry that is as long as its message says hangs on its own bytes alone: those before it that were skipped, and its own. Assumes nothing.
use Prim.Native.Nat.{ℕ, ◌+◌}
use native.Mathlib.Omega.{arith}
use mathlib.Core.Path.{◌≡◌, refl, sym, ap, ◌∙◌, subst}
use mathlib.Core.Bool.{true}
use mathlib.Core.List.{List, ◌++◌}
use lib.ListN.{length, take, drop, take-append-drop}
use lib.Seq.{length-take-le}
use Rattle.wire.specs.Answer.{Ans}
use Rattle.wire.specs.Answer.Ans.{done, need, hickup, broken}
use Rattle.wire.specs.Lawful.{Waits}
use Rattle.mark.specs.First.{pattern, find}
use Rattle.headertype.specs.HeaderType.{overall_length_of}
use Rattle.headers.proofs.Inverse.{split}
use Rattle.filter.specs.declared.Filter.{Filter}
use Rattle.parse.specs.Message.{routed}
use Rattle.confined.specs.Confined.{confined_body_of, confined_message_of}
use Rattle.confined.specs.declared.ConfinedMessage.{ConfinedMessage}
use Rattle.confined.proofs.Laws.{body_end}
use Rattle.owned.proofs.Own.{value_own}
use Rattle.walk.specs.Walk.{Take}
use Rattle.step.specs.Step.{hickup_kind, unrecoverable_kind, kind_of, skipped_to_of, length_of, heard, asked}
use Rattle.step.proofs.Place.{placed}
use Rattle.step.proofs.Fair.{fair, stays}

module _ (f : List ℕ) (filter : Filter) (s : List ℕ) (k l i : ℕ) (e : asked f filter s ≡ Take k l i) (whole : (i ≡ hickup_kind → ⊥) × (i ≡ unrecoverable_kind → ⊥)) where
  -- it was read: where it ends
  record Read : Type 0 where
    pub value : ConfinedMessage
    pub end : ℕ
    pub is : confined_message_of f filter true s 0 ≡ done value end

  read : Read
  unfolding asked
  read = by (confined_message_of f filter true s 0) refl e
    where
      by : (x : Ans ConfinedMessage) → confined_message_of f filter true s 0 ≡ x → heard (skipped_to_of (find pattern s 0)) (length_of (routed f filter true s 0)) x ≡ Take k l i → Read
      by (done v n) q g = record { value = v; end = n; is = q }
      by (need n) q g = let z : ◌≡◌ {A = ℕ} 0 1 = cc in absurd (omega arith)
      by (hickup r) q g = let z : hickup_kind ≡ i = cc in absurd (whole.0 (sym z))
      by broken q g = let z : unrecoverable_kind ≡ i = cc in absurd (whole.1 (sym z))

  ends : read.end ≡ k + l
  unfolding asked confined_message_of
  ends =
      let r = split (routed f filter true) confined_body_of s 0 read.is in
      let p = placed f filter s r.first in
      let a : skipped_to_of (find pattern s 0) ≡ p.place = ap skipped_to_of p.found in
      let b : length_of (routed f filter true s 0) ≡ 16 + overall_length_of r.value.header = ap length_of r.first in
      let c : Take (skipped_to_of (find pattern s 0)) (length_of (routed f filter true s 0)) (kind_of read.value) ≡ Take k l i = sym (ap (heard (skipped_to_of (find pattern s 0)) (length_of (routed f filter true s 0))) read.is) ∙ e in
      let x : skipped_to_of (find pattern s 0) ≡ k = cc in
      let y : length_of (routed f filter true s 0) ≡ l = cc in
      omega (arith, body_end r.value s r.mid r.second, p.end, a, b, x, y)

  -- AN ITEM, FILTERED OR OVERRUN ENTRY is the same of the bytes up to its end, whatever stands behind them
  pub own : asked f filter (take (k + l) s) ≡ Take k l i
  own =
      let within = (fair f filter).within s k l i e in
      let u = take (k + l) s in
      let t = drop (k + l) s in
      let all : u ++ t ≡ s = take-append-drop (k + l) s in
      let long : length u ≡ k + l = length-take-le (k + l) s within in
      let is : confined_message_of f filter true (u ++ t) 0 ≡ done read.value read.end = ap (λ (x : List ℕ). confined_message_of f filter true x 0) all ∙ read.is in
      let front : confined_message_of f filter true u 0 ≡ done read.value read.end = value_own f filter true u t read.value read.end is (omega (arith, ends)) in
      sym (stays f filter u t (λ w. subst Waits front w)) ∙ ap (asked f filter) all ∙ e
