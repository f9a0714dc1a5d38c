-- The law of signed numbers, and what `search` needs beside wire's rules.
use Prim.Native.Nat.{ℕ, ◌*◌}
use mathlib.Core.Path.{◌≡◌, ◌∙◌}
use mathlib.Core.Bool.{Bool}
use mathlib.Core.List.{List}
use lib.IntN.{ℤ}
use Rattle.wire.specs.Answer.{Ans}
use Rattle.wire.specs.Answer.Ans.{done}
use Rattle.wire.specs.Lawful.{Lawful}
use Rattle.wire.specs.Number.{numeric, halves_of}
use Rattle.wire.specs.declared.Wide.{Wide}
use Rattle.wire.proofs.Digits.{numeric_law, numeric_via, numeric_wants}
use Rattle.wire.proofs.Reading.{took, lacked, reading}
use Rattle.wire.specs.declared.Got.{Got}
use Rattle.wire.specs.declared.Need.{Need}
use Rattle.std.specs.Prelude.{Result, Err}
use Rattle.std.specs.Result.{result_from_control_flow}
use Rattle.std.proofs.Common.{Continue, Break}
use Rattle.signed.specs.Twos.{twos, signed, signed_halves}
use Rattle.signed.specs.declared.SignedWide.{SignedWide}
use Rattle.signed.proofs.Complement.{handed_on}
use Rattle.wire.specs.Answers.{need_ans}

pub signed_law : (big : Bool) (w : ℕ) → Lawful (signed big w)
unfolding signed
signed_law big w = numeric_law (twos (8 * w)) big w

-- ---- 128 bits: the halves that were read, the high one taken as signed
abbrev carry : Wide → SignedWide
carry v = record { high = twos 64 v.high; low = v.low }

module _ (big : Bool) (s : List ℕ) (at : ℕ) (r : Result (Got Wide) Need) (f : _) (e : need_ans r ≡ numeric halves_of big 16 s at) (q : r ≡ result_from_control_flow f) where
  pub wide_done : (g : Got Wide) (h : ℤ) → f ≡ Continue g → h ≡ twos 64 g.v.high
      → done (record { high = h; low = g.v.low }) g.next ≡ numeric signed_halves big 16 s at
  unfolding halves_of signed_halves
  wide_done g h t i = rw i (numeric_via halves_of carry big 16 s at (took (numeric halves_of big 16 s at) r f e q g t))

  pub wide_need : (n : _) (x : Ans SignedWide) → f ≡ Break n → x ≡ need_ans {A = SignedWide} (Err n.0) → x ≡ numeric signed_halves big 16 s at
  unfolding halves_of signed_halves
  wide_need n x t h = h ∙ numeric_wants halves_of carry big 16 s at (lacked (numeric halves_of big 16 s at) r f e q n t)

pub ruleset signed-reading = (reading, handed_on, wide_done, wide_need)
