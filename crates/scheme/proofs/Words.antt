-- Words of sixteen bits as sets of readers. Assumes nothing.
use Rattle.std.proofs.Common.{◌≡◌, ℕ, ◌*◌, ◌-◌, ◌/◌, ◌%◌, ◌^◌, ◌<◌, ◌≤◌, true, false, not, arith}
use Rattle.std.specs.Prelude.{bit_and, bit_or, ◌==◌}
use Rattle.std.proofs.Math.Path.{fun_ext}
use Rattle.std.specs.Int.{w16}
use Rattle.std.proofs.lemmas.Bool.Decides.{nat_tests}
use Rattle.std.proofs.lemmas.Nat.Bits.{bit_at-zero, bit_at-lt, shr_and_one, bit_at_set_same, bit_at_set_other, bit_at_clear_same, bit_at_clear_other, same_from_bits_below}
use Rattle.scheme.specs.Meaning.{nobody, updated, anybody}
use Rattle.scheme.specs.ReaderSets.{has_bit}
use Rattle.scheme.proofs.Sets.{none_in, nobody_in}
use Rattle.scheme.specs.SoundSets.{bits_known}

pub no_bit : has_bit 0 ≡ nobody
unfolding has_bit
no_bit = fun_ext (λ x. grind (arith, nat_tests, bit_at-zero x))

pub none_high : (s x : ℕ) → 16 ≤ x → has_bit s x ≡ false
unfolding has_bit
none_high s x h = grind (arith, nat_tests)

-- a bit is read by a shift and a mask
pub bit_read : (s r : ℕ) → r < 16 → (bit_and (s / 2 ^ r) 1 == 1) ≡ has_bit s r
unfolding has_bit
bit_read s r h = grind (arith, nat_tests, shr_and_one s r)

-- a bit is written
pub bit_set : (s k : ℕ) → k < 16 → has_bit (bit_or s (1 * 2 ^ k % 65536)) ≡ updated (has_bit s) k true
unfolding has_bit
bit_set s k h = fun_ext (λ x. grind (arith, nat_tests, bit_at_set_same w16 s k h, bit_at_set_other w16 s k h x))

pub bit_cleared : (s k : ℕ) → k < 16 → has_bit (bit_and s (65535 - 1 * 2 ^ k % 65536)) ≡ updated (has_bit s) k false
unfolding has_bit
bit_cleared s k h = fun_ext (λ x. grind (arith, nat_tests, bit_at_clear_same w16 s k h, bit_at_clear_other w16 s k h x))

-- only the word 0 has no bit
zero_without : (s : ℕ) → s < 2 ^ 16 → ((r : ℕ) → has_bit s r ≡ false) → s ≡ 0
unfolding has_bit
zero_without s h none = same_from_bits_below 16 s 0 h (omega arith) (λ r l. grind (arith, nat_tests, none r, bit_at-lt s r))

pub empty_word : (s : ℕ) → s < 2 ^ 16 → (s == 0) ≡ not (anybody (has_bit s))
empty_word s h = grind (arith, nat_tests, zero_without s h, none_in (has_bit s), bits_known s, nobody_in (has_bit s), no_bit)
