-- How many readers a set has. Assumes nothing.
use Rattle.std.specs.Prelude.{ℕ, zero, suc, ◌+◌, Bool, true, false}
use Rattle.scheme.specs.Meaning.{readers}

-- 1 for true, 0 for false
abbrev pub one : Bool → ℕ
one true = 1
one false = 0

-- how many numbers below n are in f
abbrev pub count_below : (ℕ → Bool) → ℕ → ℕ
count_below f zero = 0
count_below f (suc n) = count_below f n + one (f n)

-- how many readers are in f
unfoldable pub number : (ℕ → Bool) → ℕ
number f = count_below f readers
