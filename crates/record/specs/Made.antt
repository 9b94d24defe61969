-- What making gave, by the fields of the record or the number of the field at fault. Assumes nothing.
use Rattle.std.specs.Prelude.{ℕ, ◌⊎◌, List, ℤ, Ok, Err, Result}
use Rattle.std.proofs.Common.{inl, inr}
use Rattle.record.specs.declared.fault.Fault.{Fault}

abbrev pub made : {R : Type 0} → (R → List ℤ) → Result R Fault → List ℤ ⊎ ℕ
made fields (Ok x) = inl (fields x)
made fields (Err f) = inr f.field
