-- Lemmas for the law of a scheme of phases: the meaning of visits is sound. Assumes nothing.
use Rattle.std.specs.Prelude.{◌≡◌, ℕ, ◌≤◌, Bool, true, false, List, length, Option, None, is_some}
use Rattle.std.proofs.Common.{ap, arith}
use Rattle.std.proofs.lemmas.Bool.{and_left, and_parts}
use Rattle.std.proofs.lemmas.List.{get_or_past}
use Rattle.scheme.specs.declared.phase_number.PhaseNumber.{PhaseNumber}
use Rattle.scheme.specs.Meaning.{Sound}
use Rattle.scheme.specs.PhaseNumbers.{other}
use Rattle.scheme.specs.Visits.{visiting, under, phased}

pub nobody_past : (visits : List (Option PhaseNumber)) (r : ℕ) → length visits ≤ r → visiting visits r ≡ false
unfolding visiting
nobody_past visits r h = ap is_some (get_or_past visits r None h)

pub under_visiting : (visits : List (Option PhaseNumber)) (p : PhaseNumber) (r : ℕ) → under visits p r ≡ true → visiting visits r ≡ true
unfolding visiting under
under_visiting visits p r t = grind arith

pub phased_sound : (visits : List (Option PhaseNumber)) (p : PhaseNumber) (w : Bool) → length visits ≡ 16 → Sound (phased visits p w)
phased_sound visits p w l =
    record {
      known = λ r t. grind (arith, nobody_past visits r);
      within = λ r t. under_visiting visits (other p) r (and_parts w (under visits (other p) r) t).1;
      quiet = λ r. and_left w (under visits (other p) r);
    }
