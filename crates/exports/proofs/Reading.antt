-- The lemmas of the calls, for `search`: a is the answer that was made, X what the lent slice has at the end. Assumes nothing.
use Prim.Native.Nat.{ℕ, ◌≤◌, ◌<◌}
use mathlib.Core.Path.{◌≡◌, sym, ap, ◌∙◌}
use mathlib.Core.Bool.{Bool, true, false}
use mathlib.Core.List.{List}
use lib.ListN.{length}
use borrow.Author.Tests.{le-leb, lt-leb}
use Rattle.wire.specs.Answer.{Ans}
use Rattle.wire.specs.Answer.Ans.{done, need}
use Rattle.cursor.specs.Cursor.{turn}
use Rattle.cursor.specs.declared.Cursor.{Cursor}
use Rattle.cursor.specs.declared.Handed.{Handed}
use Rattle.cursor.specs.Raw.{raw_turn}
use Rattle.cursor.specs.declared.RawCursor.{RawCursor}
use Rattle.cursor.specs.declared.HandedRaw.{HandedRaw}
use Rattle.signals.specs.Signals.{signal_turn, construct_ans}
use Rattle.signals.specs.declared.SignalCursor.{SignalCursor}
use Rattle.signals.specs.declared.HandedSignal.{HandedSignal}
use Rattle.signals.specs.declared.Constructed.{Constructed}
use Rattle.wire.specs.Parser.{ret}
use Rattle.wire.specs.Run.{bytes}
use Rattle.wire.proofs.Step as step
use Rattle.wire.proofs.Step.{then_done, then_need, then_hickup, then_broken, ret_is, choose_true, choose_false}
use Rattle.headertype.specs.declared.Endianness.{Endianness}
use Rattle.filter.specs.Filter.{filter_of}
use Rattle.filter.specs.declared.Filter.{Filter}
use Rattle.filter.specs.declared.FilterError.{FilterError}
use Rattle.std.specs.Prelude.{Result, Ok, Err, Option, Some, None}
use Rattle.payload.specs.Payload.{payload}
use Rattle.parse.specs.Message as parse
use Rattle.parse.specs.Message.{is_big_of, item_of, passed, item, body, routed, message, judged, message_of}
use Rattle.parse.specs.declared.Headers.{Headers}
use Rattle.parse.specs.declared.ParsedMessage.{ParsedMessage}
use Rattle.numbers.specs.Layout.{message_laid}
use Rattle.numbers.specs.Arguments.{argument_laid}
use Rattle.numbers.specs.Raw.{raw_laid}
use Rattle.index.specs.Index.{number_of, need_of, outcome}
use Rattle.index.specs.declared.Indexed.{Indexed}
use Rattle.exports.specs.Calls.{Outcome, message_shown, message_call, turn_shown, argument_call, raw_shown, raw_call, signal_shown, signal_call, index_shown, index_call, found_answer, consume_answer, construct_answer, need_told, reason_told, stop_told, halt_told, filter_told}
use Rattle.exports.specs.declared.Answer.{Answer}
use Rattle.wire.specs.Answers.{halt_ans, need_ans, reason_ans, stop_ans}
use Rattle.wire.specs.declared.Got.{Got}
use Rattle.wire.specs.declared.Need.{Need}
use Rattle.wire.specs.declared.Stop.{Stop}
use Rattle.wire.specs.declared.Halt.{Halt}
use Rattle.wire.specs.declared.Reason.{Reason}
use Rattle.wire.specs.declared.Range.{Range}
use Rattle.payload.specs.declared.PayloadContent.{PayloadContent}

abbrev pub numbers : ℕ → ℕ → ℕ → Answer
numbers n value used = record { number = n; value = value; used = used }

abbrev pub left : Answer → List ℕ → Outcome
left a X = record { answer = a; out = X }

-- ---- dlt_message: r is what the message rule answered
pub message_short : (f : List ℕ) (stored : Bool) (s T : List ℕ) (a : Answer) → length T < 37 → a ≡ numbers 15 37 0 → message_call f stored s T ≡ left a T
unfolding message_call
message_short f stored s T a h e = rw (lt-leb 37 (length T) h, e)

module _ (f : List ℕ) (stored : Bool) (s T X : List ℕ) (v : Result Filter FilterError) (a : Answer) (d : v ≡ filter_of f) (fits : 37 ≤ length T) where
  pub message_refused : (w : FilterError) → v ≡ Err w → a ≡ filter_told w → message_call f stored s T ≡ left a T
  unfolding message_call message_of judged message_shown
  message_refused FilterError.Bad q e = rw (le-leb 37 (length T) fits, sym d ∙ q, e)
  message_refused FilterError.Retired q e = rw (le-leb 37 (length T) fits, sym d ∙ q, e)

  pub message_good : (filter : Filter) → v ≡ Ok filter → message_shown T (parse.Answer.answered (message f filter stored s 0)) ≡ left a X → message_call f stored s T ≡ left a X
  unfolding message_call message_of judged
  message_good filter q e = rw (le-leb 37 (length T) fits, sym d ∙ q) e

-- a message that the filter drops
module _ (T X : List ℕ) (a : Answer) (n : ℕ) (s : List ℕ) (at : ℕ) (r : Result (Got Range) Need) (d : need_ans r ≡ bytes n s at) where
  pub dropped_done : (g : Got Range) → r ≡ Ok g → X ≡ message_laid T (ParsedMessage.FilteredOut n) → a ≡ numbers 0 0 g.next
      → message_shown T (parse.Answer.answered (passed n s at)) ≡ left a X
  unfolding message_shown passed
  dropped_done g q x e = rw (then_done (bytes n) (λ all. ret (ParsedMessage.FilteredOut n)) s at (step.told need_ans d q), ret_is (ParsedMessage.FilteredOut n) s g.next, x, e)

  pub dropped_need : (m : Need) → r ≡ Err m → a ≡ need_told m → message_shown T (parse.Answer.answered (passed n s at)) ≡ left a T
  unfolding message_shown passed
  dropped_need m q e = rw (then_need (bytes n) (λ all. ret (ParsedMessage.FilteredOut n)) s at (step.told need_ans d q), e)

-- one that it lets pass: b is the byte order that a call told
module _ (T X : List ℕ) (a : Answer) (h : Headers) (b : Bool) (o : b ≡ is_big_of h.header.endianness) (s : List ℕ) (at : ℕ) (r : Result (Got PayloadContent) Halt)
    (d : halt_ans r ≡ payload b h.extended_header h.header.payload_length s at) where
  as_told : (r' : Result (Got PayloadContent) Halt) → r ≡ r' → payload (is_big_of h.header.endianness) h.extended_header h.header.payload_length s at ≡ halt_ans r'
  as_told r' q = rw (← o) (step.told halt_ans d q)

  pub item_done : (g : Got PayloadContent) → r ≡ Ok g → X ≡ message_laid T (item_of h g.v) → a ≡ numbers 0 0 g.next → message_shown T (parse.Answer.answered (item h s at)) ≡ left a X
  unfolding message_shown item
  item_done g q x e = rw (then_done _ (λ p. ret (item_of h p)) s at (as_told (Ok g) q), ret_is (item_of h g.v) s g.next, x, e)

  pub item_refused : (w : Halt) → r ≡ Err w → a ≡ halt_told w → message_shown T (parse.Answer.answered (item h s at)) ≡ left a T
  unfolding message_shown item
  item_refused (Halt.Need m) q e = rw (then_need _ (λ p. ret (item_of h p)) s at (as_told (Err (Halt.Need m)) q), e)
  item_refused (Halt.Hickup m) q e = rw (then_hickup _ (λ p. ret (item_of h p)) s at (as_told (Err (Halt.Hickup m)) q), e)
  item_refused Halt.Broken q e = rw (then_broken _ (λ p. ret (item_of h p)) s at (as_told (Err Halt.Broken) q), e)

pub order_at : (e e' : Endianness) (x : Bool) → e ≡ e' → x ≡ is_big_of e' → x ≡ is_big_of e
order_at e e' x q h = rw q h

-- the body, by the filter's verdict
module _ (T X : List ℕ) (a : Answer) (h : Headers) (s : List ℕ) (at : ℕ) where
  pub body_dropped : h.filtered ≡ true → message_shown T (parse.Answer.answered (passed h.header.payload_length s at)) ≡ left a X → message_shown T (parse.Answer.answered (body h s at)) ≡ left a X
  unfolding body
  body_dropped q e = rw (choose_true (passed h.header.payload_length) (item h) s at q) e

  pub body_kept : h.filtered ≡ false → message_shown T (parse.Answer.answered (item h s at)) ≡ left a X → message_shown T (parse.Answer.answered (body h s at)) ≡ left a X
  unfolding body
  body_kept q e = rw (choose_false (passed h.header.payload_length) (item h) s at q) e

-- the headers first
module _ (T X : List ℕ) (a : Answer) (f : List ℕ) (filter : Filter) (stored : Bool) (s : List ℕ) (r : Result (Got Headers) Stop) (d : stop_ans r ≡ routed f filter stored s 0) where
  pub heads_done : (g : Got Headers) → r ≡ Ok g → message_shown T (parse.Answer.answered (body g.v s g.next)) ≡ left a X
      → message_shown T (parse.Answer.answered (message f filter stored s 0)) ≡ left a X
  unfolding message
  heads_done g q e = rw (then_done (routed f filter stored) body s 0 (step.told stop_ans d q)) e

  pub heads_refused : (w : Stop) → r ≡ Err w → a ≡ stop_told w → message_shown T (parse.Answer.answered (message f filter stored s 0)) ≡ left a T
  unfolding message_shown message
  heads_refused (Stop.Need n) q e = rw (then_need (routed f filter stored) body s 0 (step.told stop_ans d q), e)
  heads_refused (Stop.Hickup n) q e = rw (then_hickup (routed f filter stored) body s 0 (step.told stop_ans d q), e)

-- ---- dlt_argument, dlt_raw_value and dlt_signal
module _ (c : Cursor) (s T : List ℕ) (a : Answer) where
  pub argument_short : length T < 26 → a ≡ numbers 15 26 0 → argument_call c s T ≡ left a T
  unfolding argument_call
  argument_short h e = rw (lt-leb 26 (length T) h, e)

  pub argument_told : (X : List ℕ) (r r' : Result (Got (Option Handed)) Stop) → 26 ≤ length T → stop_ans r ≡ turn c s c.at → r ≡ r' → turn_shown T (stop_ans r') ≡ left a X → argument_call c s T ≡ left a X
  unfolding argument_call
  argument_told X r r' h d q e = rw (le-leb 26 (length T) h, sym d, q) e

module _ (T : List ℕ) (a : Answer) where
  pub turn_at : (X : List ℕ) (t t' : Option Handed) (b : ℕ) → t ≡ t' → turn_shown T (done t' b) ≡ left a X → turn_shown T (done t b) ≡ left a X
  turn_at X t t' b q h = rw q h

  pub turn_item : (X : List ℕ) (i : Handed) (b : ℕ) → X ≡ argument_laid T i.rest.at i.rest.left i.rest.big i.argument → a ≡ numbers 0 1 b → turn_shown T (done (Some i) b) ≡ left a X
  unfolding turn_shown
  turn_item X i b h e = rw (h, e)

  pub turn_end : (b : ℕ) → a ≡ numbers 0 0 b → turn_shown T (done None b) ≡ left a T
  unfolding turn_shown
  turn_end b e = rw e

  pub turn_refused : (w : Stop) → a ≡ stop_told w → turn_shown T (stop_ans (Err w)) ≡ left a T
  unfolding turn_shown
  turn_refused (Stop.Need n) e = rw e
  turn_refused (Stop.Hickup n) e = rw e

module _ (c : RawCursor) (s T : List ℕ) (a : Answer) where
  pub raw_short : length T < 5 → a ≡ numbers 15 5 0 → raw_call c s T ≡ left a T
  unfolding raw_call
  raw_short h e = rw (lt-leb 5 (length T) h, e)

  pub raw_told : (X : List ℕ) (r r' : Result (Got (Option HandedRaw)) Stop) → 5 ≤ length T → stop_ans r ≡ raw_turn c s c.at → r ≡ r' → raw_shown T (stop_ans r') ≡ left a X → raw_call c s T ≡ left a X
  unfolding raw_call
  raw_told X r r' h d q e = rw (le-leb 5 (length T) h, sym d, q) e

module _ (T : List ℕ) (a : Answer) where
  pub raw_at : (X : List ℕ) (t t' : Option HandedRaw) (b : ℕ) → t ≡ t' → raw_shown T (done t' b) ≡ left a X → raw_shown T (done t b) ≡ left a X
  raw_at X t t' b q h = rw q h

  pub raw_item : (X : List ℕ) (i : HandedRaw) (b : ℕ) → X ≡ raw_laid T i.rest i.range → a ≡ numbers 0 1 b → raw_shown T (done (Some i) b) ≡ left a X
  unfolding raw_shown
  raw_item X i b h e = rw (h, e)

  pub raw_end : (b : ℕ) → a ≡ numbers 0 0 b → raw_shown T (done None b) ≡ left a T
  unfolding raw_shown
  raw_end b e = rw e

  pub raw_refused : (w : Stop) → a ≡ stop_told w → raw_shown T (stop_ans (Err w)) ≡ left a T
  unfolding raw_shown
  raw_refused (Stop.Need n) e = rw e
  raw_refused (Stop.Hickup n) e = rw e

module _ (words : List ℕ) (c : SignalCursor) (s T : List ℕ) (a : Answer) where
  pub signal_short : length T < 26 → a ≡ numbers 15 26 0 → signal_call words c s T ≡ left a T
  unfolding signal_call
  signal_short h e = rw (lt-leb 26 (length T) h, e)

  pub signal_told : (X : List ℕ) (r r' : Result (Got (Option HandedSignal)) Reason) → 26 ≤ length T → reason_ans r ≡ signal_turn words c s c.at → r ≡ r' → signal_shown T (reason_ans r') ≡ left a X
      → signal_call words c s T ≡ left a X
  unfolding signal_call
  signal_told X r r' h d q e = rw (le-leb 26 (length T) h, sym d, q) e

module _ (T : List ℕ) (a : Answer) where
  pub signal_at_lem : (X : List ℕ) (t t' : Option HandedSignal) (b : ℕ) → t ≡ t' → signal_shown T (done t' b) ≡ left a X → signal_shown T (done t b) ≡ left a X
  signal_at_lem X t t' b q h = rw q h

  pub signal_item : (X : List ℕ) (i : HandedSignal) (b : ℕ) → X ≡ argument_laid T i.rest.at i.rest.word i.rest.big i.argument → a ≡ numbers 0 1 b → signal_shown T (done (Some i) b) ≡ left a X
  unfolding signal_shown
  signal_item X i b h e = rw (h, e)

  pub signal_end : (b : ℕ) → a ≡ numbers 0 0 b → signal_shown T (done None b) ≡ left a T
  unfolding signal_shown
  signal_end b e = rw e

  pub signal_refused : (w : Reason) → a ≡ reason_told w → signal_shown T (reason_ans (Err w)) ≡ left a T
  unfolding signal_shown
  signal_refused w e = rw e

-- ---- the calls that are lent nothing to write into: r is what the rule answered
module _ (a : Answer) (r x : Option ℕ) (d : r ≡ x) where
  pub found_at : (i : ℕ) → r ≡ Some i → a ≡ numbers 0 1 i → a ≡ found_answer x
  found_at i q e = e ∙ ap found_answer (sym q ∙ d)

  pub found_none : r ≡ None → a ≡ numbers 0 0 0 → a ≡ found_answer x
  found_none q e = e ∙ ap found_answer (sym q ∙ d)

module _ (a : Answer) (r r' : Result (Got (Option ℕ)) Stop) (x : Ans (Option ℕ)) where
  pub consume_told : stop_ans r ≡ x → r ≡ r' → a ≡ consume_answer (stop_ans r') → a ≡ consume_answer x
  consume_told d q e = e ∙ ap consume_answer (ap stop_ans (sym q) ∙ d)

module _ (a : Answer) where
  pub consume_refused : (w : Stop) → a ≡ stop_told w → a ≡ consume_answer (stop_ans (Err w))
  unfolding consume_answer
  consume_refused (Stop.Need n) e = e
  consume_refused (Stop.Hickup n) e = e

  pub count_some : (o : Option ℕ) (n b : ℕ) → o ≡ Some n → a ≡ numbers 0 n b → a ≡ consume_answer (done o b)
  unfolding consume_answer
  count_some o n b q e = rw q e

  pub count_none : (o : Option ℕ) (b : ℕ) → o ≡ None → a ≡ numbers 0 0 b → a ≡ consume_answer (done o b)
  unfolding consume_answer
  count_none o b q e = rw q e

module _ (a : Answer) (r : Result Constructed Reason) (x : Ans ℕ) (d : construct_ans r ≡ x) where
  pub construct_done : (g : Constructed) → r ≡ Ok g → a ≡ numbers 0 g.count g.used → a ≡ construct_answer x
  unfolding construct_answer
  construct_done g q e = e ∙ ap construct_answer (ap construct_ans (sym q) ∙ d)

  pub construct_refused : (w : Reason) → r ≡ Err w → a ≡ reason_told w → a ≡ construct_answer x
  unfolding construct_answer
  construct_refused w q e = e ∙ ap construct_answer (ap construct_ans (sym q) ∙ d)

-- ---- dlt_index: r is what the call answered, X the table that it left
module _ (f s T X : List ℕ) (n at used : ℕ) (r : Indexed) (k m : ℕ) where
  pub index_told : outcome f n s (record { at = at; used = used }) T ≡ record { answer = r; table = X } → k ≡ number_of r.end → m ≡ need_of r.end
      → index_call f n s at used T ≡ record { answer = record { number = k; need = m; at = r.state.at; used = r.state.used; taken = r.taken }; table = X }
  unfolding index_call index_shown
  index_told e p q = rw (e, p, q)

pub ruleset calls = (index_told, message_short, message_refused, message_good, dropped_done, dropped_need, item_done, item_refused, order_at, body_dropped, body_kept, heads_done, heads_refused, argument_short, argument_told, turn_at, turn_item, turn_end, turn_refused, raw_short, raw_told, raw_at, raw_item, raw_end, raw_refused, signal_short, signal_told, signal_at_lem, signal_item, signal_end, signal_refused, found_at, found_none, consume_told, consume_refused, count_some, count_none, construct_done, construct_refused)
