-- Stores in a row as the code writes them, and groups of numbers behind one another. Assumes nothing.
use Prim.Native.Nat.{ℕ, ◌+◌, ◌≤◌, ◌<◌}
use mathlib.Core.Path.{◌≡◌, refl, ◌∙◌}
use mathlib.Core.List.{List, [], ◌∷◌, ◌++◌}
use native.Mathlib.Numerals.{add-one, add-two, add-three, add-four, add_five, add_six, add_seven, add_eight}
use native.Mathlib.Omega.{arith}
use lib.ListN.{length, set, length-append}
use borrow.Author.Tests.{le-leb, lt-leb}
use Rattle.table.specs.Over.{over}
use Rattle.table.proofs.Laws.{stores, over_over}
use Rattle.headertype.specs.declared.StandardHeader.{StandardHeader}
use Rattle.payload.specs.declared.PayloadContent.{PayloadContent}
use Rattle.cursor.specs.declared.Cursor.{Cursor}
use Rattle.cursor.specs.declared.RawCursor.{RawCursor}
use Rattle.messageinfo.specs.declared.ControlType.{ControlType}
use Rattle.messageinfo.specs.declared.ExtendedHeader.{ExtendedHeader}
use Rattle.wire.specs.declared.Range.{Range}
use Rattle.parse.specs.Message.{item_of}
use Rattle.parse.specs.declared.Headers.{Headers}
use Rattle.parse.specs.declared.ParsedMessage.{ParsedMessage}
use Rattle.messageinfo.specs.Kept.{control_number_of, type_number_of, subtype_number_of}
use Rattle.numbers.specs.Layout.{one_if_of, order_number, text_numbers, num_numbers, storage_numbers, front_numbers, standard_numbers, extended_numbers, payload_numbers, text_end_of, stored_end_of, application_end_of, context_end_of, end_numbers, lead_numbers, item_numbers, message_numbers, message_laid}
use Rattle.std.specs.Prelude.{Option, Some, None}
use Rattle.storage.specs.declared.Stored.{Stored}
use Rattle.wire.specs.declared.Text.{Text}

module _ (T : List ℕ) (k : ℕ) where
  pub row2 : (a b : ℕ) → k + 2 ≤ length T → set (set T k a) (k + 1) b ≡ over T k (a ∷ b ∷ [])
  row2 a b h = rw (add-one k) (stores T k (a ∷ b ∷ []) h)

  pub row3 : (a b c : ℕ) → k + 3 ≤ length T → set (set (set T k a) (k + 1) b) (k + 2) c ≡ over T k (a ∷ b ∷ c ∷ [])
  row3 a b c h = rw (add-one k, add-two k) (stores T k (a ∷ b ∷ c ∷ []) h)

  pub row4 : (a b c d : ℕ) → k + 4 ≤ length T → set (set (set (set T k a) (k + 1) b) (k + 2) c) (k + 3) d ≡ over T k (a ∷ b ∷ c ∷ d ∷ [])
  row4 a b c d h = rw (add-one k, add-two k, add-three k) (stores T k (a ∷ b ∷ c ∷ d ∷ []) h)

  pub row5 : (a b c d e : ℕ) → k + 5 ≤ length T → set (set (set (set (set T k a) (k + 1) b) (k + 2) c) (k + 3) d) (k + 4) e ≡ over T k (a ∷ b ∷ c ∷ d ∷ e ∷ [])
  row5 a b c d e h = rw (add-one k, add-two k, add-three k, add-four k) (stores T k (a ∷ b ∷ c ∷ d ∷ e ∷ []) h)

  pub row6 : (a b c d e f : ℕ) → k + 6 ≤ length T → set (set (set (set (set (set T k a) (k + 1) b) (k + 2) c) (k + 3) d) (k + 4) e) (k + 5) f ≡ over T k (a ∷ b ∷ c ∷ d ∷ e ∷ f ∷ [])
  row6 a b c d e f h = rw (add-one k, add-two k, add-three k, add-four k, add_five k) (stores T k (a ∷ b ∷ c ∷ d ∷ e ∷ f ∷ []) h)

  pub row9 : (a b c d e f g h i : ℕ) → k + 9 ≤ length T → set (set (set (set (set (set (set (set (set T k a) (k + 1) b) (k + 2) c) (k + 3) d) (k + 4) e) (k + 5) f) (k + 6) g) (k + 7) h) (k + 8) i ≡ over T k (a ∷ b ∷ c ∷ d ∷ e ∷ f ∷ g ∷ h ∷ i ∷ [])
  row9 a b c d e f g h i fits = rw (add-one k, add-two k, add-three k, add-four k, add_five k, add_six k, add_seven k, add_eight k) (stores T k (a ∷ b ∷ c ∷ d ∷ e ∷ f ∷ g ∷ h ∷ i ∷ []) fits)

-- ---- numbers v from place k on, and numbers u behind them
pub joined : (T X Y v u : List ℕ) (k n : ℕ) → X ≡ over T k v → Y ≡ over X n u → n ≡ k + length v → n ≤ length T → Y ≡ over T k (v ++ u)
joined T X Y v u k n p q e h = q ∙ rw (p, e) (over_over T k v (omega arith) u)

-- ---- the variant that was matched for the enum's value
module _ (T X : List ℕ) (k : ℕ) where
  pub text_at : (o o' : Option Text) → o ≡ o' → X ≡ over T k (text_numbers o') → X ≡ over T k (text_numbers o)
  text_at o o' q h = rw q h

  pub num_at : (o o' : Option ℕ) → o ≡ o' → X ≡ over T k (num_numbers o') → X ≡ over T k (num_numbers o)
  num_at o o' q h = rw q h

  pub storage_at : (o o' : Option Stored) → o ≡ o' → X ≡ over T k (storage_numbers o') → X ≡ over T k (storage_numbers o)
  storage_at o o' q h = rw q h

  pub extended_at_lem : (o o' : Option ExtendedHeader) → o ≡ o' → X ≡ over T k (extended_numbers o') → X ≡ over T k (extended_numbers o)
  extended_at_lem o o' q h = rw q h

  pub payload_at : (o o' : PayloadContent) → o ≡ o' → X ≡ over T k (payload_numbers o') → X ≡ over T k (payload_numbers o)
  payload_at o o' q h = rw q h

-- ---- the same where calls gave some of the numbers
module _ (T X : List ℕ) (k : ℕ) (p : PayloadContent) (y : ℕ) where
  pub verbose_row : (c : Cursor) → p ≡ PayloadContent.Verbose c → y ≡ one_if_of c.big → X ≡ over T k (0 ∷ 0 ∷ c.at ∷ c.left ∷ y ∷ []) → X ≡ over T k (payload_numbers p)
  unfolding payload_numbers
  verbose_row c q e h = h ∙ rw (q, e)

  pub trace_row : (c : RawCursor) → p ≡ PayloadContent.NetworkTrace c → y ≡ one_if_of c.big → X ≡ over T k (3 ∷ 0 ∷ c.at ∷ c.left ∷ y ∷ []) → X ≡ over T k (payload_numbers p)
  unfolding payload_numbers
  trace_row c q e h = h ∙ rw (q, e)

  pub control_row : (t : ControlType) (r : Range) → p ≡ PayloadContent.ControlMsg t r → y ≡ control_number_of t → X ≡ over T k (2 ∷ y ∷ r.start ∷ r.len ∷ 0 ∷ []) → X ≡ over T k (payload_numbers p)
  unfolding payload_numbers
  control_row t r q e h = h ∙ rw (q, e)

pub extended_row : (T X : List ℕ) (k : ℕ) (o : Option ExtendedHeader) (x : ExtendedHeader) (v n m : ℕ) → o ≡ Some x → v ≡ one_if_of x.verbose → n ≡ type_number_of x.message_type
    → m ≡ subtype_number_of x.message_type
    → X ≡ over T k (1 ∷ v ∷ x.argument_count ∷ n ∷ m ∷ x.application_id.place.start ∷ x.application_id.place.len ∷ x.context_id.place.start ∷ x.context_id.place.len ∷ [])
    → X ≡ over T k (extended_numbers o)
unfolding extended_numbers
extended_row T X k o x v n m q ev en em h = h ∙ rw (q, ev, en, em)

-- ---- how many numbers a group has
pub texts : (o : Option Text) → length (text_numbers o) ≡ 3
unfolding text_numbers
texts (Some t) = refl
texts None = refl

pub nums : (o : Option ℕ) → length (num_numbers o) ≡ 2
unfolding num_numbers
nums (Some n) = refl
nums None = refl

pub storages : (o : Option Stored) → length (storage_numbers o) ≡ 6
unfolding storage_numbers
storages (Some x) = refl
storages None = refl

pub extendeds : (o : Option ExtendedHeader) → length (extended_numbers o) ≡ 9
unfolding extended_numbers
extendeds (Some x) = refl
extendeds None = refl

pub payloads : (o : PayloadContent) → length (payload_numbers o) ≡ 5
unfolding payload_numbers
payloads (PayloadContent.Verbose c) = refl
payloads (PayloadContent.NonVerbose id r) = refl
payloads (PayloadContent.ControlMsg t r) = refl
payloads (PayloadContent.NetworkTrace c) = refl

-- ---- groups behind one another: a, then b, c, from place k on
module _ (T A B C a b c : List ℕ) (k l m : ℕ) where
  pub three_groups : A ≡ over T k a → B ≡ over A l b → C ≡ over B m c → l ≡ k + length a → m ≡ l + length b → m ≤ length T → C ≡ over T k ((a ++ b) ++ c)
  three_groups p q r e f h =
      let two = joined T A B a b k l p q e (omega arith) in
      joined T B C (a ++ b) c k m two r (omega (arith, length-append a b)) h

module _ (T A B C D a b c d : List ℕ) (k l m n : ℕ) where
  pub four_groups : A ≡ over T k a → B ≡ over A l b → C ≡ over B m c → D ≡ over C n d → l ≡ k + length a → m ≡ l + length b → n ≡ m + length c → n ≤ length T → D ≡ over T k (((a ++ b) ++ c) ++ d)
  four_groups p q r s e f g h =
      let three = three_groups T A B C a b c k l m p q r e f (omega arith) in
      joined T C D ((a ++ b) ++ c) d k n three s (omega (arith, length-append a b, length-append (a ++ b) c)) h

pub standards : (h : StandardHeader) → length (standard_numbers h) ≡ 11
unfolding standard_numbers front_numbers
standards h =
    let v = front_numbers h in
    let w = v ++ text_numbers h.ecu_id in
    let x = w ++ num_numbers h.session_id in
    omega (
      arith,
      length-append v (text_numbers h.ecu_id),
      length-append w (num_numbers h.session_id),
      length-append x (num_numbers h.timestamp),
      texts h.ecu_id,
      nums h.session_id,
      nums h.timestamp,
    )

-- x and y are what `order` and `flag` gave
pub front_row : (T X : List ℕ) (h : StandardHeader) (x y : ℕ) → x ≡ order_number h.endianness → y ≡ one_if_of h.has_extended_header
    → X ≡ over T 8 (h.version ∷ x ∷ y ∷ h.message_counter ∷ []) → X ≡ over T 8 (front_numbers h)
unfolding front_numbers
front_row T X h x y ex ey p = p ∙ rw (ex, ey)

-- a to d are what calls gave for why the four identifiers ended
pub ends_row : (T X : List ℕ) (o : Option Stored) (h : StandardHeader) (x : Option ExtendedHeader) (a b c d : ℕ) → a ≡ stored_end_of o → b ≡ text_end_of h.ecu_id → c ≡ application_end_of x → d ≡ context_end_of x
    → X ≡ over T 33 (a ∷ b ∷ c ∷ d ∷ []) → X ≡ over T 33 (end_numbers o h x)
unfolding end_numbers
ends_row T X o h x a b c d ea eb ec ed p = p ∙ rw (ea, eb, ec, ed)

-- what the calls of `put_standard` leave, one after another
pub standard_row : (T A B C D : List ℕ) (h : StandardHeader) → 37 ≤ length T → A ≡ over T 8 (front_numbers h) → B ≡ over A 12 (text_numbers h.ecu_id)
    → C ≡ over B 15 (num_numbers h.session_id) → D ≡ over C 17 (num_numbers h.timestamp) → D ≡ over T 8 (standard_numbers h)
unfolding standard_numbers front_numbers
standard_row T A B C D h fits p q r s =
    four_groups T A B C D (front_numbers h) (text_numbers h.ecu_id) (num_numbers h.session_id) (num_numbers h.timestamp) 8 12 15 17 p q r s refl
    (omega (arith, texts h.ecu_id)) (omega (arith, nums h.session_id)) (omega arith)

-- what the calls of `put_lead` and of `put_item` leave
pub leads : (o : Option Stored) (h : StandardHeader) → length (lead_numbers o h) ≡ 19
unfolding lead_numbers
leads o h =
    let a : List ℕ = 0 ∷ h.payload_length ∷ [] in
    let b = storage_numbers o in
    omega (arith, length-append a b, length-append (a ++ b) (standard_numbers h), storages o, standards h)

module _ (T A B C : List ℕ) (fits : 37 ≤ length T) where
  pub lead_row : (o : Option Stored) (h : StandardHeader) → A ≡ over T 0 (0 ∷ h.payload_length ∷ []) → B ≡ over A 2 (storage_numbers o) → C ≡ over B 8 (standard_numbers h)
      → C ≡ over T 0 (lead_numbers o h)
  unfolding lead_numbers
  lead_row o h p q r =
      let a : List ℕ = 0 ∷ h.payload_length ∷ [] in
      three_groups T A B C a (storage_numbers o) (standard_numbers h) 0 2 8 p q r refl (omega (arith, storages o)) (omega arith)

  pub item_row : (D : List ℕ) (h : Headers) (p : PayloadContent) → A ≡ over T 0 (lead_numbers h.storage_header h.header) → B ≡ over A 19 (extended_numbers h.extended_header)
      → C ≡ over B 28 (payload_numbers p) → D ≡ over C 33 (end_numbers h.storage_header h.header h.extended_header) → D ≡ message_laid T (item_of h p)
  unfolding message_laid message_numbers item_numbers item_of
  item_row D h p a b c d =
      rw (le-leb 37 (length T) fits)
      (four_groups T A B C D (lead_numbers h.storage_header h.header) (extended_numbers h.extended_header) (payload_numbers p)
      (end_numbers h.storage_header h.header h.extended_header) 0 19 28 33 a b c d
      (omega (arith, leads h.storage_header h.header)) (omega (arith, extendeds h.extended_header)) (omega (arith, payloads p)) (omega arith))

  pub filtered_row : (n : ℕ) → A ≡ over T 0 (1 ∷ n ∷ []) → A ≡ message_laid T (ParsedMessage.FilteredOut n)
  unfolding message_laid message_numbers
  filtered_row n e = rw (le-leb 37 (length T) fits) e

pub message_short : (T : List ℕ) (p : ParsedMessage) → length T < 37 → T ≡ message_laid T p
unfolding message_laid
message_short T p h = rw (lt-leb 37 (length T) h)

pub ruleset rows = (text_at, num_at, storage_at, extended_at_lem, payload_at, verbose_row, trace_row, control_row, extended_row, front_row, ends_row, standard_row, lead_row, item_row, filtered_row, message_short)
