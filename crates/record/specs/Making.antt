-- What four numbers make of a kind of record. Assumes nothing.
use Rattle.std.specs.Prelude.{◌≡◌, ℕ, suc, ◌≤◌, Bool, if◌then◌else◌, ◌&&◌, ◌⊎◌, List, [], ◌∷◌, take, ℤ, ◌≤ℤ◌, int_le}
use Rattle.std.proofs.Common.{inl, inr}

-- the fields of a record, or the first field at fault, counted from 1
abbrev pub Making : Type 0
Making = ℤ → ℤ → ℤ → ℤ → List ℤ ⊎ ℕ

-- what a list of four numbers makes; of another length, which no call has, the field at fault is 0
abbrev pub made_of : Making → List ℤ → List ℤ ⊎ ℕ
made_of making (a ∷ b ∷ c ∷ d ∷ []) = making a b c d
made_of making _ = inr 0

-- whether v is from low to high, both allowed
abbrev pub lies : ℤ → ℤ → ℤ → Bool
lies low high v = int_le low v && int_le v high

-- the same as a fact
abbrev pub Between : ℤ → ℤ → ℤ → Type 0
Between low high v = (low ≤ℤ v) × (v ≤ℤ high)

-- a test for each field from number i on: the first that fails is at fault, and where none fails these are the fields
abbrev pub judged : ℕ → List Bool → List ℤ → List ℤ ⊎ ℕ
judged i [] fields = inl fields
judged i (passed ∷ tests) fields = if passed then judged (suc i) tests fields else inr i

-- what holds of every kind
pub record SoundMaking (count : ℕ) (making : Making) : Type 0 where
  -- a record has just the numbers of the kind
  pub just : (a b c d : ℤ) (fields : List ℤ) → making a b c d ≡ inl fields → fields ≡ take count (a ∷ b ∷ c ∷ d ∷ [])
  -- what else is handed over changes nothing
  pub own : (a b c d a' b' c' d' : ℤ) → take count (a ∷ b ∷ c ∷ d ∷ []) ≡ take count (a' ∷ b' ∷ c' ∷ d' ∷ []) → making a b c d ≡ making a' b' c' d'
  -- the field at fault is one of the kind's
  pub fault : (a b c d : ℤ) (f : ℕ) → making a b c d ≡ inr f → (1 ≤ f) × (f ≤ count)
