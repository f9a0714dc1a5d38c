-- Signals in a row, handed out one a call: the cursor is faithful to the list (cursor's proofs/Walks.antt says what follows from that).
--     in_a_row       n calls give the first n of those that are left: their list, or its Hickup
--     to-its-end     as many calls as words are left, or more, give the whole list: the cursor walked to its end is the list
--     never-more     however often it is called, a cursor hands out no more than it has words left
--     at-the-end     and with none left it is at its end, whatever the bytes
--     all-counted    what `construct_arguments` counts is that list
--     never-waits    nothing is Incomplete
-- Assumes nothing.
use Prim.Native.Nat.{ℕ, suc, ◌+◌, ◌-◌, ◌≤◌, ◌<◌}
use native.Mathlib.Omega.{arith}
use mathlib.Core.Path.{◌≡◌, refl, sym, ap, ◌∙◌}
use mathlib.Core.Bool.{Bool}
use mathlib.Core.List.{List, [], ◌∷◌}
use lib.ListN.{length, get_or, take, drop, length-drop}
use lib.Seq.{drop-cons, take_all}
use borrow.Author.Tests.{lt-ltb, le-ltb}
use Rattle.wire.specs.Answer.{Ans, Parser, numbered}
use Rattle.wire.specs.Answer.Ans.{done, need, hickup, broken}
use Rattle.wire.specs.Parser.{◌>>=◌, ret, follow}
use Rattle.wire.specs.Lawful.{Waits}
use Rattle.wire.proofs.Laws.{of_two}
use Rattle.wire.proofs.Step.{choose_true, choose_false, ret_is}
use Rattle.dlt.specs.TypeInfoWord.{type_info_of_lem}
use Rattle.std.specs.Prelude.{Result, Ok, Err, Some, None}
use Rattle.dlt.specs.declared.NoTypeInfo.{NoTypeInfo}
use Rattle.dlt.specs.declared.TypeInfo.{TypeInfo}
use Rattle.dlt.specs.declared.Argument.{Argument}
use Rattle.arguments.specs.Argument.{decoded}
use Rattle.cursor.specs.Row.{mapped, before, walk, handed}
use Rattle.cursor.proofs.Walks as walks
use Rattle.cursor.proofs.Walks.{mapped_twice, more, more_is, next, next_is, goes_on, Faithful}
use Rattle.signals.specs.Signal.{closed, whole, in_data_of, signal}
use Rattle.signals.specs.Signals.{signals, constructed, listed, cursor, signal_turn, step_of, called, sized}
use Rattle.signals.specs.declared.SignalCursor.{SignalCursor}

-- the cursor behind a signal that ends at b
abbrev behind : SignalCursor → ℕ → SignalCursor
behind c b = cursor b (c.word + 1) c.big

abbrev there : List ℕ → SignalCursor → Parser Argument
there words c = signal c.big (get_or words c.word 0)

module _ (words : List ℕ) (c : SignalCursor) (s : List ℕ) (at : ℕ) where
  turn_some : c.word < length words → mapped step_of (signal_turn words c s at) ≡ next (behind c) (there words c s at)
  unfolding signal_turn
  turn_some h = ap (mapped step_of) (choose_true _ _ s at (lt-ltb _ _ h))
      ∙ next_is (there words c) (λ a b. Some (record { argument = a; rest = behind c b })) step_of (behind c) (λ a b. refl) s at

  pub at_the_end : length words ≤ c.word → signal_turn words c s at ≡ done None at
  unfolding signal_turn
  at_the_end h = choose_false _ _ s at (le-ltb _ _ h) ∙ ret_is _ s at

listed_more : (big : Bool) (s : List ℕ) (word : ℕ) (words : List ℕ) (at : ℕ) → listed big (word ∷ words) s at ≡ more (listed big words s) (signal big word s at)
unfolding listed
listed_more big s word words at = more_is (signal big word) (listed big words) s at

-- the words that a cursor has left, and the list of the first n of them
abbrev pub rest : List ℕ → SignalCursor → List ℕ
rest words c = drop c.word words

abbrev firsts : List ℕ → List ℕ → ℕ → SignalCursor → Ans (List Argument)
firsts words s n c = listed c.big (take n (rest words c)) s c.at

module _ (words s : List ℕ) where
  faithful : Faithful (called words s) (λ c. c.at) (λ c. length words - c.word) (firsts words s)
  unfolding listed ret
  faithful =
      record {
        none = λ c. refl;
        ends = λ c e. ap (mapped step_of) (at_the_end words c s c.at (omega arith));
        goes = λ c k n e.
            let l : c.word < length words = omega arith in
            let d : firsts words s (suc n) c ≡ more (listed c.big (take n (drop (suc c.word) words)) s) (there words c s c.at)
            = ap (λ (ws : List ℕ). listed c.big (take (suc n) ws) s c.at) (drop-cons words c.word 0 l) ∙ listed_more c.big s (get_or words c.word 0) (take n (drop (suc c.word) words)) c.at in
            let one : suc c.word ≡ c.word + 1 = omega arith in
            rw (turn_some words c s c.at l, d)
            (goes_on (λ c. length words - c.word) (firsts words s) (behind c) (listed c.big (take n (drop (suc c.word) words)) s) k n
            (λ b. (omega arith, ap (λ (i : ℕ). listed c.big (take n (drop i words)) s b) one)) (there words c s c.at));
      }

  module _ (n : ℕ) (c : SignalCursor) where
    pub in_a_row : n ≤ length words - c.word → walk (called words s) (λ c. c.at) n c ≡ listed c.big (take n (rest words c)) s c.at
    in_a_row = walks.in_a_row faithful n c

    pub to_its_end : length words - c.word ≤ n → walk (called words s) (λ c. c.at) n c ≡ listed c.big (rest words c) s c.at
    to_its_end h =
        let l : length (rest words c) ≤ length words - c.word = rw (length-drop c.word words) (omega arith) in
        walks.to_its_end faithful n c h ∙ ap (λ (ws : List ℕ). listed c.big ws s c.at) (take_all _ (rest words c) l)

    pub never_more : handed (called words s) n c ≤ length words - c.word
    never_more = walks.never_more faithful n c

module _ (big : Bool) (s : List ℕ) where
  pub all_counted : (words : List ℕ) (at : ℕ) → constructed big words s at ≡ sized (listed big words s at)
  unfolding constructed signals listed ◌>>=◌ ret
  all_counted [] at = refl
  all_counted (word ∷ words) at = by (signal big word s at) (all_counted words) ∙ ap sized (sym (listed_more big s word words at))
    where
      longer : (x : Ans Unit) → follow x (λ u s at. done (suc (length words)) at) s ≡ mapped suc (follow x (λ u s at. done (length words) at) s)
      longer (done u b) = refl
      longer (need m) = refl
      longer (hickup r) = refl
      longer broken = refl

      sized_more : (a : Argument) (x : Ans (List Argument)) → mapped suc (sized x) ≡ sized (before a x)
      sized_more a x = mapped_twice suc length x ∙ sym (mapped_twice length (λ rest. a ∷ rest) x)

      by : (x : Ans Argument) → ((at : ℕ) → follow (signals big words s at) (λ u s at. done (length words) at) s ≡ sized (listed big words s at))
          → follow (follow x (λ a. signals big words) s) (λ u s at. done (suc (length words)) at) s ≡ sized (more (listed big words s) x)
      by (done a b) next = longer (signals big words s b) ∙ ap (mapped suc) (next b) ∙ sized_more a (listed big words s b)
      by (need m) next = refl
      by (hickup r) next = refl
      by broken next = refl

-- ---- nothing is Incomplete
abbrev Quiet : {A : Type 0} → Parser A → Type 0
Quiet p = (s : List ℕ) (at : ℕ) → Waits (p s at) → ⊥

then_quiet : {A B : Type 0} (p : Parser A) (k : A → Parser B) → Quiet p → ((a : A) → Quiet (k a)) → Quiet (p >>= k)
unfolding ◌>>=◌
then_quiet {A} p k h g s at = go (p s at) (h s at)
  where
    go : (x : Ans A) → (Waits x → ⊥) → Waits (follow x k s) → ⊥
    go (done a b) f w = g a s b w
    go (need n) f w = f w
    go (hickup r) f w = w
    go broken f w = w

signal_quiet : (big : Bool) (word : ℕ) → Quiet (signal big word)
unfolding signal whole decoded
signal_quiet big word = then_quiet (decoded (type_info_of_lem word)) (λ i. whole (in_data_of big i)) (known (type_info_of_lem word)) (λ i s at. shut (in_data_of big i s at))
  where
    known : (d : Result TypeInfo NoTypeInfo) → Quiet (decoded d)
    known (Ok i) s at w = w
    known (Err r) s at w = w

    shut : (x : Ans Argument) → Waits (closed x) → ⊥
    shut (done a b) w = w
    shut (need n) w = w
    shut (hickup r) w = w
    shut broken w = w

signals_quiet : (big : Bool) (words : List ℕ) → Quiet (signals big words)
unfolding signals ret
signals_quiet big [] = λ s at w. w
signals_quiet big (word ∷ words) = then_quiet (signal big word) (λ a. signals big words) (signal_quiet big word) (λ a. signals_quiet big words)

constructed_quiet : (big : Bool) (words : List ℕ) → Quiet (constructed big words)
unfolding constructed ret
constructed_quiet big words = then_quiet (signals big words) (λ u. ret (length words)) (signals_quiet big words) (λ u s at w. w)

pub never_waits : (big : Bool) (words s : List ℕ) (at : ℕ) → (numbered (constructed big words s at)).number ≡ 2 → ⊥
never_waits big words s at e = constructed_quiet big words s at (of_two (constructed big words s at) e)
