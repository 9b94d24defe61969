use Rattle.std.proofs.Common.{rules}
use Rattle.scheme.proofs.Phases.{one_less}
use Rattle.scheme.proofs.visits.Visits.leave.Goals as goal

pub invariant_of-self-2-clause-counted : goal.invariant_of-self-2-clause-counted
invariant_of-self-2-clause-counted c = let s = c.args.self.now in λ q. rw (c.take.ensures.after, c.from-place.ensures) (one_less s.table _ _ s.sized c.args.reader.known s.counts _ c.from.ensures s.two s.counted q (search rules))
