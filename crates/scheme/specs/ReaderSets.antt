-- A set of readers in sixteen bits. Assumes nothing.
use Rattle.std.specs.Int.{bit_at}
use Rattle.std.specs.Prelude.{ℕ, Bool, false, ◌&&◌, ◌==◌, nat_lt, Option, None, Some}
use Rattle.scheme.specs.Meaning.{readers}
use Rattle.scheme.specs.declared.reader_set.ReaderSet.{ReaderSet}

-- whether bit r of a word is 1; there are bits 0 to 15
unfoldable pub has_bit : ℕ → ℕ → Bool
has_bit word r = nat_lt r readers && bit_at word r == 1

abbrev pub members : ReaderSet → ℕ → Bool
members s = has_bit s.bits

-- whom a wait awaits, if one is open
abbrev pub awaited_by : Option ReaderSet → ℕ → Bool
awaited_by None x = false
awaited_by (Some s) x = members s x
