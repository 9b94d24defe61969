-- The two phases. Assumes nothing.
use Rattle.std.specs.Prelude.{ℕ, Bool, true, false}
use Rattle.scheme.specs.declared.phase_number.PhaseNumber.{PhaseNumber}
use Rattle.scheme.specs.declared.phase_number.PhaseNumber.TheVariants.{Zero, One}

abbrev pub other : PhaseNumber → PhaseNumber
other Zero = One
other One = Zero

-- whether two phases are the same
abbrev pub same : PhaseNumber → PhaseNumber → Bool
same Zero Zero = true
same Zero One = false
same One Zero = false
same One One = true

-- the place of a phase's count
abbrev pub index_of : PhaseNumber → ℕ
index_of Zero = 0
index_of One = 1
