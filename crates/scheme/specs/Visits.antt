-- Readers' visits under phases, in a list by reader: none for a reader that is outside. Assumes nothing.
use Rattle.std.specs.Prelude.{ℕ, Bool, false, ◌&&◌, List, Option, None, Some, is_some, slice_index_or}
use Rattle.scheme.specs.declared.phase_number.PhaseNumber.{PhaseNumber}
use Rattle.scheme.specs.Meaning.{Meaning}
use Rattle.scheme.specs.PhaseNumbers.{other, same}

abbrev pub is_under : PhaseNumber → Option PhaseNumber → Bool
is_under p None = false
is_under p (Some q) = same p q

-- who is inside, and who of them entered under phase p
unfoldable pub visiting : List (Option PhaseNumber) → ℕ → Bool
visiting visits r = is_some (slice_index_or visits r None)

unfoldable pub under : List (Option PhaseNumber) → PhaseNumber → ℕ → Bool
under visits p r = is_under p (slice_index_or visits r None)

-- what the visits mean at the current phase p: an open wait awaits those under the other phase
abbrev pub phased : List (Option PhaseNumber) → PhaseNumber → Bool → Meaning
phased visits p w = record { inside = visiting visits; waits = w; awaited = λ r. w && under visits (other p) r }
