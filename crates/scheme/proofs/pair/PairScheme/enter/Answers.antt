use Rattle.std.proofs.Common.{refl, rules}
use Rattle.scheme.proofs.Pairs.{same_refused, same_pair}
use Rattle.scheme.proofs.pair.PairScheme.enter.Goals as goal

pub returns-in-0-to-7-clause-refused : goal.returns-in-0-to-7-clause-refused
returns-in-0-to-7-clause-refused g c = same_refused c.enter.result _ _ (search rules) (search rules) refl

pub returns-in-8-to-15-clause-refused : goal.returns-in-8-to-15-clause-refused
returns-in-8-to-15-clause-refused g c = same_refused c.enter-in-8-to-15.result _ _ (search rules) (search rules) refl

pub returns-else-reader-lt16-clause-refused : goal.returns-else-reader-lt16-clause-refused
returns-else-reader-lt16-clause-refused g c = same_pair _ _ refl refl refl
