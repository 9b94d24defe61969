-- Which numbers are those of readers. Assumes nothing.
use Rattle.std.specs.Prelude.{◌≡◌, ℕ, ◌≤◌, Ok, Err, Result}
use Rattle.scheme.specs.Meaning.{readers}
use Rattle.scheme.specs.declared.reader.Reader.{Reader}
use Rattle.scheme.specs.declared.refused.Refused.{Refused}

abbrev pub Numbered : ℕ → Result Reader Refused → Type 0
Numbered n (Ok r) = r.number ≡ n
Numbered n (Err e) = readers ≤ n
