-- The type info word of a verbose argument, by the protocol's fields; which words the protocol has, and what they mean.
use Rattle.std.specs.Prelude.{ℕ, ◌+◌, ◌/◌, ◌%◌, Bool, true, leb, eqb}
use Rattle.wire.specs.Parser.{pick}
use Rattle.headertype.specs.Bits.{flag, both, either, from_to, one_if_of}

-- the fields in the order of their bits: BOOL is bit 4, SINT 5, UINT 6, FLOA 7, ARAY 8, STRG 9, RAWD 10, VARI 11, FIXP 12, TRAI 13, STRU 14
pub record Word : Type 0 where
  pub TYLE : ℕ  -- bits 0 to 3, the length: 1 to 5 for 8, 16, 32, 64, 128 bits
  pub BOOL : Bool
  pub SINT : Bool
  pub UINT : Bool
  pub FLOA : Bool
  pub ARAY : Bool
  pub STRG : Bool
  pub RAWD : Bool
  pub VARI : Bool  -- a name, and for numbers a unit, come before the value
  pub FIXP : Bool  -- quantization and offset come before the value
  pub TRAI : Bool  -- trace info, a text
  pub STRU : Bool
  pub SCOD : ℕ  -- bits 15 to 17, the coding of a string: 0 ASCII, 1 UTF-8; the rest is reserved [memory]
  pub UNUSED : ℕ  -- bits 18 and above

abbrev pub fields_of : ℕ → Word
fields_of w = record {
  TYLE = w % 16;
  BOOL = flag 16 w;
  SINT = flag 32 w;
  UINT = flag 64 w;
  FLOA = flag 128 w;
  ARAY = flag 256 w;
  STRG = flag 512 w;
  RAWD = flag 1024 w;
  VARI = flag 2048 w;
  FIXP = flag 4096 w;
  TRAI = flag 8192 w;
  STRU = flag 16384 w;
  SCOD = w / 32768 % 8;
  UNUSED = w / 262144;
}

-- ---- the words that the protocol has
abbrev pub integer : Word → Bool
integer i = either i.SINT i.UINT

-- how many types a word names. ARAY is none by itself: an array is one of bools, integers or floats [memory]. TRAI and STRU are types [memory]
abbrev pub types : Word → ℕ
types i =
    one_if_of i.BOOL + one_if_of i.SINT + one_if_of i.UINT + one_if_of i.FLOA + one_if_of i.STRG + one_if_of i.RAWD + one_if_of i.TRAI + one_if_of i.STRU

-- the lengths that a type allows: a bool has 8 bits, an integer 8 to 128, a float 16 to 128. For any other type TYLE says nothing [memory]
abbrev pub length_allowed : Word → Bool
length_allowed i =
    pick i.BOOL (eqb i.TYLE 1)
    (pick (integer i) (from_to 1 5 i.TYLE)
    (pick i.FLOA (from_to 2 5 i.TYLE) true))

-- FIXP goes with integers, ARAY with bools, integers and floats [memory]
abbrev pub besides : Word → Bool
besides i =
    both (pick i.FIXP (integer i) true)
    (pick i.ARAY (either i.BOOL (either (integer i) i.FLOA)) true)

-- a coding that has a name, and no bit that is reserved
abbrev pub tidy : Word → Bool
tidy i = both (leb i.SCOD 1) (eqb i.UNUSED 0)

-- exactly one type, with a length that it allows, and nothing beside it that it does not
abbrev pub typed : Word → Bool
typed i = both (eqb (types i) 1) (both (length_allowed i) (besides i))

abbrev pub has : Word → Bool
has i = both (typed i) (tidy i)

-- ---- what a word of one of the six types that the crate knows means
pub record Meaning : Type 0 where
  pub type : ℕ  -- the number of the type's bit
  pub width : ℕ  -- in bits; 0 where the type has no length
  pub fixp : Bool
  pub vari : Bool
  pub scod : ℕ

abbrev pub type_of : Word → ℕ
type_of i =
    pick i.BOOL 4
    (pick i.SINT 5
    (pick i.UINT 6
    (pick i.FLOA 7
    (pick i.STRG 9 10))))

abbrev pub bits_of : ℕ → ℕ
bits_of tyle =
    pick (eqb tyle 1) 8
    (pick (eqb tyle 2) 16
    (pick (eqb tyle 3) 32
    (pick (eqb tyle 4) 64
    (pick (eqb tyle 5) 128 0))))

abbrev pub width_of : Word → ℕ
width_of i = pick (either i.BOOL (either (integer i) i.FLOA)) (bits_of i.TYLE) 0

abbrev pub meaning_of : Word → Meaning
meaning_of i = record {
  type = type_of i;
  width = width_of i;
  fixp = i.FIXP;
  vari = i.VARI;
  scod = i.SCOD;
}
