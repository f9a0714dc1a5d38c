-- A repeat is as long as it says, for a number n that nothing computes with.
use Rattle.std.proofs.Common.{◌≡◌, ℕ, length, replicate, sym}
use Rattle.std.proofs.lemmas.List.{length-replicate}

pub long : (n a : ℕ) → n ≡ length (replicate n a)
long n a = sym (length-replicate n a)
