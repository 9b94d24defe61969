-- The kind `way`: latitude and longitude in units of 0.0000001 degree, height in cm, speed in cm/s. Assumes nothing.
use Rattle.std.specs.Prelude.{Bool, List, [], ◌∷◌, ℤ, pos, neg_ℤ}
use Rattle.record.specs.Making.{Making, Between, lies, judged}
use Rattle.record.specs.declared.way.Way.{Way}

abbrev pub way_fields : Way → List ℤ
way_fields w = w.latitude ∷ w.longitude ∷ w.height ∷ w.speed ∷ []

-- the ends of the limits
abbrev pub north : ℤ
north = pos 900_000_000

abbrev pub south : ℤ
south = neg_ℤ north

abbrev pub east : ℤ
east = pos 1_800_000_000

abbrev pub west : ℤ
west = neg_ℤ east

abbrev pub lowest : ℤ
lowest = neg_ℤ (pos 100_000)

abbrev pub highest : ℤ
highest = pos 1_000_000

abbrev pub fastest : ℤ
fastest = pos 3_000

abbrev pub way_tests : (latitude longitude height speed : ℤ) → List Bool
way_tests latitude longitude height speed = lies south north latitude ∷ lies west east longitude ∷ lies lowest highest height ∷ lies (pos 0) fastest speed ∷ []

-- the first field outside its limits is at fault
abbrev pub way_making : Making
way_making latitude longitude height speed = judged 1 (way_tests latitude longitude height speed) (latitude ∷ longitude ∷ height ∷ speed ∷ [])

-- what holds of every waypoint that exists
pub record WayWithin (w : Way) : Type 0 where
  pub latitude : Between south north w.latitude
  pub longitude : Between west east w.longitude
  pub height : Between lowest highest w.height
  pub speed : Between (pos 0) fastest w.speed
