use Rattle.std.proofs.Common.{rules, true, false}
use Rattle.scheme.proofs.Pairs.{pair_polled}
use Rattle.scheme.proofs.pair.PairScheme.poll.Goals as goal

pub returns-then-still_waits-clause-follows : goal.returns-then-still_waits-clause-follows
returns-then-still_waits-clause-follows g c =
    let done = pair_polled c.if-not-self.false (g.met.A.Scheme.sound _) (g.met.B.Scheme.sound _) c.args.self.now.joins c.poll-first.ensures.follows c.poll-second.ensures.follows true (search rules) in
    record { answers = done.0; next = done.1 }

pub returns-clause-follows : goal.returns-clause-follows
returns-clause-follows g c =
    let done = pair_polled c.if-not-self.false (g.met.A.Scheme.sound _) (g.met.B.Scheme.sound _) c.args.self.now.joins c.poll-first.ensures.follows c.poll-second.ensures.follows false (search rules) in
    record { answers = done.0; next = done.1 }
