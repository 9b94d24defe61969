-- What is printed of a fault, by its bytes. Assumes nothing.
use Rattle.std.specs.Prelude.{ℕ, List, codes, ◌++◌}
use Rattle.std.specs.Fmt.{decimal}

abbrev pub fault_text : ℕ → List ℕ
fault_text field = codes "field " ++ decimal field ++ codes " is at fault"
