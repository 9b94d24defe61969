-- How many readers a set has: none, at most sixteen, and one more or less. Assumes nothing.
use Rattle.std.specs.Prelude.{◌≡◌, ℕ, zero, suc, ◌+◌, ◌<◌, ◌≤◌, Bool, nat_lt, refl}
use Rattle.std.proofs.Common.{arith}
use Rattle.std.proofs.lemmas.Bool.Decides.{nat_tests}
use Rattle.scheme.specs.Meaning.{nobody, updated, anybody_below, anybody}
use Rattle.scheme.specs.Counts.{one, count_below, number}

pub count_same : (f g : ℕ → Bool) (n : ℕ) → ((k : ℕ) → k < n → f k ≡ g k) → count_below f n ≡ count_below g n
count_same f g zero h = refl
count_same f g (suc n) h = grind (arith, count_same f g n (λ k l. h k (omega arith)), h n)

count_le : (f : ℕ → Bool) (n : ℕ) → count_below f n ≤ n
count_le f zero = omega arith
count_le f (suc n) = grind (arith, count_le f n)

-- the count after a change at r, beside the count before
pub count_updated : (f : ℕ → Bool) (r n : ℕ) (b : Bool) → r < n → count_below (updated f r b) n + one (f r) ≡ count_below f n + one b
count_updated f r zero b l = absurd (omega arith)
count_updated f r (suc n) b l = grind (arith, nat_tests, count_updated f r n b, count_same (updated f r b) f n)

anybody_counted : (f : ℕ → Bool) (n : ℕ) → anybody_below f n ≡ nat_lt 0 (count_below f n)
anybody_counted f zero = refl
anybody_counted f (suc n) = grind (arith, nat_tests, anybody_counted f n)

pub number_updated : (f : ℕ → Bool) (r : ℕ) (b : Bool) → r < 16 → number (updated f r b) + one (f r) ≡ number f + one b
unfolding number
number_updated f r b h = count_updated f r 16 b h

pub number_le : (f : ℕ → Bool) → number f ≤ 16
unfolding number
number_le f = count_le f 16

pub anybody_number : (f : ℕ → Bool) → anybody f ≡ nat_lt 0 (number f)
unfolding anybody number
anybody_number f = anybody_counted f 16

pub number_nobody : number nobody ≡ 0
unfolding number
number_nobody = refl
