-- Two schemes side by side: readers 0 to 7 are the first's, 8 to 15 the second's 0 to 7. Assumes nothing.
use Rattle.std.specs.Prelude.{◌≡◌, ℕ, ◌-◌, ◌<◌, Bool, true, false, if◌then◌else◌, nat_lt}
use Rattle.scheme.specs.Meaning.{Meaning}

abbrev pub side_by_side : (ℕ → Bool) → (ℕ → Bool) → ℕ → Bool
side_by_side f g x = if nat_lt x 8 then f x else g (x - 8)

-- the meaning of both, where w says whether the wait of the two together is open
abbrev pub joined : Bool → Meaning → Meaning → Meaning
joined w a b = record { inside = side_by_side a.inside b.inside; waits = w; awaited = side_by_side a.awaited b.awaited }

-- each has only readers 0 to 7 inside, and with no wait of the two open neither has one
pub record Joins (w : Bool) (a b : Meaning) : Type 0 where
  pub first_low : (r : ℕ) → a.inside r ≡ true → r < 8
  pub second_low : (r : ℕ) → b.inside r ≡ true → r < 8
  pub first_quiet : w ≡ false → a.waits ≡ false
  pub second_quiet : w ≡ false → b.waits ≡ false
