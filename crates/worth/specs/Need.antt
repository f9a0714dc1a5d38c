-- What a need is worth: which step gave it, and what so many more bytes bring.
use Rattle.std.specs.Prelude.{ℕ, ◌+◌, ◌-◌, ◌≤◌, ◌<◌, ◌≡◌, Bool, true, false, List, length}
use Rattle.wire.specs.Answer.{Ans}
use Rattle.wire.specs.Answer.Ans.{done, need, hickup, broken}
use Rattle.headertype.specs.HeaderType.{overall_length_of}
use Rattle.filter.specs.declared.Filter.{Filter}
use Rattle.filtering.specs.FilteredOut.{filtered_out_of}
use Rattle.payload.specs.Payload.{is_verbose_of}
use Rattle.parse.specs.Message.{Answer}
use Rattle.worth.specs.Opening.{Opening, opening}

-- step 5 gives the need n: steps 2 to 4 have read the opening o, and n of the declared bytes are missing
pub record Short (stored : Bool) (s : List ℕ) (n : ℕ) (o : Opening) : Type 0 where
  pub behind : ℕ
  pub read : opening stored s 0 ≡ done o behind
  pub missing : length s - o.start + n ≡ overall_length_of o.header
  pub some : 0 < n

-- a message that ends where its declared length ends: it isn't verbose, or the filter, read from the bytes f, drops it
pub data ByLength (f : List ℕ) (filter : Filter) (s : List ℕ) (o : Opening) : Type 0 where
  quiet : is_verbose_of o.extended ≡ false → ByLength f filter s o
  dropped : filtered_out_of f filter s o.extended o.header.ecu_id ≡ true → ByLength f filter s o

-- whose need it is: that of steps 2 to 4, which read the headers; that of step 5; or that of the arguments of a message whose declared bytes are all there
pub data Whose (f : List ℕ) (filter : Filter) (stored : Bool) (s : List ℕ) (n : ℕ) : Type 0 where
  early : opening stored s 0 ≡ need n → Whose f filter stored s n
  short : (o : Opening) → Short stored s n o → Whose f filter stored s n
  late : (o : Opening) (behind : ℕ) → opening stored s 0 ≡ done o behind → overall_length_of o.header ≤ length s - o.start
      → is_verbose_of o.extended ≡ true → filtered_out_of f filter s o.extended o.header.ecu_id ≡ false → Whose f filter stored s n

-- decided over so many bytes: item or filtered, with every byte used, or Unrecoverable; neither Incomplete nor a Hickup
abbrev pub Decided : {A : Type 0} → ℕ → Ans A → Type 0
Decided all (done a b) = b ≡ all
Decided all (need n) = ⊥
Decided all (hickup r) = ⊥
Decided all broken = Unit

-- the same of the whole call, and neither BadFilter nor RetiredTag
abbrev pub DecidedCall : {A : Type 0} → ℕ → Answer A → Type 0
DecidedCall all Answer.bad_filter = ⊥
DecidedCall all Answer.retired_tag = ⊥
DecidedCall all (Answer.answered x) = Decided all x
