-- WHAT A NEED IS WORTH, of the message rule under any good filter, in both modes:
--     given           where declared bytes are missing behind headers that were read (`Short`), the answer is Incomplete, and their number is the need
--     worth           with exactly so many more bytes, of any value, a message that ends by its declared length is decided, and every byte is used
--     worth-its-need  the same in the words of the request: the message isn't verbose
--     no_less         and fewer bytes than these leave it Incomplete, whatever the message: there is no lesser number
--     whose           every need is that of steps 2 to 4, or step 5's, or that of the arguments of a verbose message that isn't dropped
-- Assumes nothing.
use Prim.Native.Nat.{ℕ, ◌+◌, ◌-◌, ◌≤◌, ◌<◌, zero-le}
use native.Mathlib.Omega.{arith}
use mathlib.Core.Path.{◌≡◌, refl, sym, ap, ◌∙◌, subst}
use mathlib.Core.Bool.{Bool, true, false}
use mathlib.Core.List.{List, ◌++◌}
use lib.ListN.{length, length-append}
use lib.Dec.{leb}
use borrow.Author.Tests.{le-leb, lt-leb, leb-true, leb-false}
use Rattle.wire.specs.Answer.{Ans, Parser, numbered}
use Rattle.wire.specs.Answer.Ans.{done, need, hickup, broken}
use Rattle.wire.specs.Parser.{follow, lacking, ◌>>=◌}
use Rattle.wire.specs.Lawful.{Kept}
use Rattle.wire.proofs.Step.{ends, then_done, then_need, then_hickup, then_broken}
use Rattle.headertype.specs.HeaderType.{all_headers, header_type_byte_of, overall_length_of}
use Rattle.filter.specs.declared.Filter.{Filter}
use Rattle.filtering.specs.FilteredOut.{filtered_out_of}
use Rattle.filtering.proofs.Stable.{filtered_same}
use Rattle.payload.specs.Payload.{is_verbose_of}
use Rattle.parse.specs.Message.{having_from, seen, headers_of_lem, routed, body, message}
use Rattle.parse.specs.declared.Headers.{Headers}
use Rattle.facts.proofs.Laws.{message_honest}
use Rattle.worth.specs.Opening.{Opening, opening}
use Rattle.worth.specs.Need.{Short, ByLength, Whose, Decided}
use Rattle.worth.proofs.Opening.{check, routed_is, opening_law}
use Rattle.worth.proofs.Ends.{parts, opening_ends, ecu_in, ids_in_lem}
use Rattle.worth.proofs.Decided.{dropped_decided, quiet_decided}

-- ---- two needs that are one; an answer that is another than a need
pub same_need : {A : Type 0} {m n : ℕ} → ◌≡◌ {A = Ans A} (need m) (need n) → m ≡ n
same_need e = cc

pub no_hickup_need : {A X : Type 0} {r n : ℕ} → ◌≡◌ {A = Ans A} (hickup r) (need n) → X
no_hickup_need {A} e = absurd (omega (arith, ap (λ (x : Ans A). (numbered x).number) e))

pub no_broken_need : {A X : Type 0} {n : ℕ} → ◌≡◌ {A = Ans A} broken (need n) → X
no_broken_need {A} e = absurd (omega (arith, ap (λ (x : Ans A). (numbered x).number) e))

-- ---- step 5 by itself: the declared bytes are there, or they aren't
module _ {A : Type 0} (start n : ℕ) (s : List ℕ) (at : ℕ) where
  lacks : (p : Parser A) (m : ℕ) → length s - start + m ≡ n → 0 < m → having_from start n p s at ≡ need m
  unfolding having_from
  lacks p m e h =
      let z : lacking n s start ≡ m = omega arith in
      rw (lt-leb n (length s - start) (omega arith)) (ap need z)

  pub stands : (f : List ℕ → A) → n ≤ length s - start → having_from start n (seen f) s at ≡ done (f s) at
  unfolding having_from seen
  stands f h = rw (le-leb n (length s - start) h)

-- ---- where the headers are read
module _ (t : Bool) (s : List ℕ) (l : Opening) (behind : ℕ) (read : opening t s 0 ≡ done l behind) where
  pub ending : behind ≡ l.start + all_headers (header_type_byte_of l.header)
  ending = opening_ends (parts t l behind s 0 read)

  pub begins : l.start ≤ length s
  begins = omega (arith, (ends {p = opening t} s 0 (opening_law t) zero-le read).1, ending)

  -- the payload ends where the declared bytes do
  pub payload_end : behind + l.header.payload_length ≡ l.start + overall_length_of l.header
  unfolding overall_length_of
  payload_end = omega (arith, ending)

  -- they are read with more bytes too
  pub still : (more : List ℕ) → opening t (s ++ more) 0 ≡ done l behind
  still more = subst (λ (x : Ans Opening). Kept x (length more) (opening t (s ++ more) 0)) read ((opening_law t).kept s more 0 zero-le)

  module _ (f : List ℕ) (filter : Filter) where
    -- steps 5 and 6 come next
    routed_next : routed f filter t s 0 ≡ check f filter l s behind
    routed_next = routed_is f filter t s 0 ∙ then_done (opening t) (check f filter) s 0 read

    -- the filter's verdict is that of the headers
    same_verdict : (more : List ℕ) → filtered_out_of f filter (s ++ more) l.extended l.header.ecu_id ≡ filtered_out_of f filter s l.extended l.header.ecu_id
    same_verdict more = let p = parts t l behind s 0 read in filtered_same f s more filter l.extended l.header.ecu_id (ids_in_lem p begins) (ecu_in p begins)

    -- all declared bytes are there: the headers go to steps 6 and 7
    module _ (there : overall_length_of l.header ≤ length s - l.start) where
      abbrev heads : Headers
      heads = headers_of_lem f filter l.stored l.header l.extended s

      pub heads_read : routed f filter t s 0 ≡ done (headers_of_lem f filter l.stored l.header l.extended s) behind
      unfolding check
      heads_read = routed_next ∙ stands l.start (overall_length_of l.header) s behind (headers_of_lem f filter l.stored l.header l.extended) there

      to_body : message f filter t s 0 ≡ body heads s behind
      unfolding message
      to_body = then_done (routed f filter t) body s 0 heads_read

      by_length : ByLength f filter s l → Decided (l.start + overall_length_of l.header) (message f filter t s 0)
      unfolding headers_of_lem
      by_length c = rw to_body (subst (λ (n : ℕ). Decided n (body heads s behind)) end (by c))
        where
          room : behind + heads.header.payload_length ≤ length s
          room = omega (arith, payload_end, begins, there)

          end : behind + heads.header.payload_length ≡ l.start + overall_length_of l.header
          end = payload_end

          by : ByLength f filter s l → Decided (behind + heads.header.payload_length) (body heads s behind)
          by (ByLength.quiet v) = quiet_decided heads s behind room v
          by (ByLength.dropped d) = dropped_decided heads s behind room d

-- ---- the needs of steps 2 to 6 with any half k behind them, the payload or another
then_first : {A B : Type 0} (p q : Parser A) (k : A → Parser B) (s : List ℕ) (at : ℕ) → p s at ≡ q s at → (p >>= k) s at ≡ (q >>= k) s at
unfolding ◌>>=◌
then_first {A} p q k s at e = ap (λ (x : Ans A). follow x k s) e

heads_lack : (f : List ℕ) (filter : Filter) (t : Bool) (s : List ℕ) (n : ℕ) (l : Opening) → Short t s n l → routed f filter t s 0 ≡ need n
unfolding check
heads_lack f filter t s n l short =
    routed_next t s l short.behind short.read f filter
    ∙ lacks l.start (overall_length_of l.header) s short.behind (seen (headers_of_lem f filter l.stored l.header l.extended)) n (omega (arith, short.missing)) (omega (arith, short.some))

module _ {A : Type 0} (k : Headers → Parser A) (f : List ℕ) (filter : Filter) (t : Bool) (s : List ℕ) where
  -- step 5's is given
  pub given_by : (n : ℕ) (l : Opening) → Short t s n l → (routed f filter t >>= k) s 0 ≡ need n
  given_by n l short = then_need (routed f filter t) k s 0 (heads_lack f filter t s n l short)

  module _ (n : ℕ) (e : (routed f filter t >>= k) s 0 ≡ need n) where
    -- headers that were read, and then a need: if declared bytes are missing, it is step 5's
    pub short_by : (l : Opening) (behind : ℕ) → opening t s 0 ≡ done l behind → length s - l.start < overall_length_of l.header → Short t s n l
    short_by l behind read lack =
        let m = overall_length_of l.header - (length s - l.start) in
        let short : Short t s m l = record { behind = behind; read = read; missing = omega (arith, lack); some = omega (arith, lack) } in
        subst (λ (j : ℕ). Short t s j l) (same_need (sym (given_by m l short) ∙ e)) short

    -- it is that of steps 2 to 4, or the headers were read
    pub need_by : {X : Type 0} → (opening t s 0 ≡ need n → X) → ((l : Opening) (behind : ℕ) → opening t s 0 ≡ done l behind → X) → X
    need_by {X} early read = by (opening t s 0) refl
      where
        whole : {x : Ans A} → ((opening t >>= check f filter) >>= k) s 0 ≡ x → x ≡ need n
        whole q = sym q ∙ then_first (opening t >>= check f filter) (routed f filter t) k s 0 (sym (routed_is f filter t s 0)) ∙ e

        by : (x : Ans Opening) → opening t s 0 ≡ x → X
        by (done l behind) q = read l behind q
        by (need m) q = early (q ∙ ap need (same_need (whole (then_need (opening t >>= check f filter) k s 0 (then_need (opening t) (check f filter) s 0 q)))))
        by (hickup r) q = no_hickup_need (whole (then_hickup (opening t >>= check f filter) k s 0 (then_hickup (opening t) (check f filter) s 0 q)))
        by broken q = no_broken_need (whole (then_broken (opening t >>= check f filter) k s 0 (then_broken (opening t) (check f filter) s 0 q)))

-- ---- step 5 gave the need
module _ (f : List ℕ) (filter : Filter) (t : Bool) (s : List ℕ) (n : ℕ) (l : Opening) (short : Short t s n l) where
  pub given : message f filter t s 0 ≡ need n
  unfolding message
  given = given_by body f filter t s n l short

  -- exactly that many more bytes, of any value, bring a decided answer, and every byte is used
  pub worth : ByLength f filter s l → (more : List ℕ) → length more ≡ n → Decided (length (s ++ more)) (message f filter t (s ++ more) 0)
  worth c more e = subst (λ (n : ℕ). Decided n (message f filter t (s ++ more) 0)) all (by_length t (s ++ more) l short.behind (still t s l short.behind short.read more) f filter there (longer c))
    where
      from : l.start ≤ length s
      from = begins t s l short.behind short.read

      all : l.start + overall_length_of l.header ≡ length (s ++ more)
      all = omega (arith, length-append s more, short.missing, from)

      there : overall_length_of l.header ≤ length (s ++ more) - l.start
      there = omega (arith, all)

      longer : ByLength f filter s l → ByLength f filter (s ++ more) l
      longer (ByLength.quiet v) = ByLength.quiet v
      longer (ByLength.dropped d) = ByLength.dropped (same_verdict t s l short.behind short.read f filter more ∙ d)

  -- in the words of the request: the message isn't verbose
  pub worth_its_need : is_verbose_of l.extended ≡ false → (more : List ℕ) → length more ≡ n → Decided (length (s ++ more)) (message f filter t (s ++ more) 0)
  worth_its_need v = worth (ByLength.quiet v)

  -- fewer bytes don't do, verbose or not: it is the least number that does
  pub no_less : (more : List ℕ) → length more < n → (numbered (message f filter t (s ++ more) 0)).number ≡ 2
  no_less more few = message_honest f filter t s more n (ap numbered given) few

-- ---- and whose the need is
module _ (f : List ℕ) (filter : Filter) (t : Bool) (s : List ℕ) (n : ℕ) where
  module _ (l : Opening) (behind : ℕ) (read : opening t s 0 ≡ done l behind) (e : message f filter t s 0 ≡ need n) where
    abbrev all : ℕ
    all = overall_length_of l.header

    lacking_short : length s - l.start < all → Short t s n l
    unfolding message
    lacking_short lack = short_by body f filter t s n e l behind read lack

    -- where no declared byte is missing the message doesn't end by its length
    not_by_length : all ≤ length s - l.start → ByLength f filter s l → ⊥
    not_by_length there c = subst (Decided _) e (by_length t s l behind read f filter there c)

    -- so that the need of a message that ends by its length is step 5's, once the headers are read
    pub of_step_5 : ByLength f filter s l → Short t s n l
    of_step_5 c = by (leb all (length s - l.start)) refl
      where
        by : (b : Bool) → leb all (length s - l.start) ≡ b → Short t s n l
        by true q = absurd (not_by_length (leb-true _ _ q) c)
        by false q = lacking_short (leb-false _ _ q)

    behind_headers : Whose f filter t s n
    behind_headers = by (leb all (length s - l.start)) (is_verbose_of l.extended) (filtered_out_of f filter s l.extended l.header.ecu_id) refl refl refl
      where
        by : (b v d : Bool) → leb all (length s - l.start) ≡ b → is_verbose_of l.extended ≡ v → filtered_out_of f filter s l.extended l.header.ecu_id ≡ d → Whose f filter t s n
        by false v d q r u = Whose.short l (lacking_short (leb-false _ _ q))
        by true true false q r u = Whose.late l behind read (leb-true _ _ q) r u
        by true true true q r u = absurd (not_by_length (leb-true _ _ q) (ByLength.dropped u))
        by true false d q r u = absurd (not_by_length (leb-true _ _ q) (ByLength.quiet r))

  pub whose : message f filter t s 0 ≡ need n → Whose f filter t s n
  unfolding message
  whose e = need_by body f filter t s n e Whose.early (λ l behind q. behind_headers l behind q e)
