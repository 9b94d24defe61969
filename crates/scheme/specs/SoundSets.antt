-- Lemmas for the law of a scheme of bits: whom its sets can hold. Assumes nothing.
use Rattle.std.specs.Prelude.{◌≡◌, ℕ, ◌<◌, true, false, Option, is_some}
use Rattle.std.proofs.Common.{arith}
use Rattle.std.proofs.lemmas.Bool.Decides.{nat_tests}
use Rattle.scheme.specs.declared.reader_set.ReaderSet.{ReaderSet}
use Rattle.scheme.specs.ReaderSets.{has_bit, awaited_by}

pub bits_known : (s x : ℕ) → has_bit s x ≡ true → x < 16
unfolding has_bit
bits_known s x h = grind (arith, nat_tests)

-- a wait that is not open awaits nobody
pub quiet_without : (w : Option ReaderSet) (r : ℕ) → is_some w ≡ false → awaited_by w r ≡ false
quiet_without w r e = grind arith
