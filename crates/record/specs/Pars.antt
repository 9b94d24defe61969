-- The kind `par`: value, least, most. Assumes nothing.
use Rattle.std.specs.Prelude.{Bool, List, [], ◌∷◌, ℤ}
use Rattle.record.specs.Making.{Making, Between, lies, judged}
use Rattle.record.specs.declared.par.Par.{Par}

abbrev pub par_fields : Par → List ℤ
par_fields p = p.value ∷ p.least ∷ p.most ∷ []

-- field 1 is at fault where the value is not from the least to the most
abbrev pub par_tests : (value least most : ℤ) → List Bool
par_tests value least most = lies least most value ∷ []

-- the fourth number is not read
abbrev pub par_making : Making
par_making value least most unread = judged 1 (par_tests value least most) (value ∷ least ∷ most ∷ [])

-- what holds of every parameter that exists
pub record ParWithin (p : Par) : Type 0 where
  pub value : Between p.least p.most p.value
