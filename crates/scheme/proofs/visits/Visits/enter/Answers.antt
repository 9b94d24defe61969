use Rattle.std.proofs.Common.{rules}
use Rattle.scheme.specs.Visits.{visiting}
use Rattle.scheme.proofs.Phases.{one_more}
use Rattle.scheme.proofs.visits.Visits.enter.Goals as goal

pub invariant_of-self-clause-counted : goal.invariant_of-self-clause-counted
unfolding visiting
invariant_of-self-clause-counted c = let s = c.args.self.now in λ q. rw c.from-place.ensures (one_more s.table _ _ s.sized c.args.reader.known s.counts _ c.from.ensures s.two s.counted q (search rules))
