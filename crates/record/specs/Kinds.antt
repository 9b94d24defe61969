-- The word of a kind, by its bytes. Assumes nothing.
use Rattle.std.specs.Prelude.{ℕ, List, codes}
use Rattle.record.specs.declared.kind.Kind.{Kind}
use Rattle.record.specs.declared.kind.Kind.TheVariants.{Way, Par}

abbrev pub kind_word : Kind → List ℕ
kind_word Way = codes "way"
kind_word Par = codes "par"
