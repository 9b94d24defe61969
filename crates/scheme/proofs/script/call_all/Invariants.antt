use Rattle.std.proofs.Common.{◌≡◌, ◌++◌, length, take, drop}
use Rattle.scheme.specs.Meaning.{at_start}
use Rattle.scheme.specs.Scripts.{after, answers}
use Rattle.scheme.proofs.script.call_all.Given as goal

-- what is still to be called goes on from here as from the start, behind the answers so far
abbrev pub invariant-loop-i : goal.invariant-loop-i
invariant-loop-i g l =
    let m = g.S.Scheme.meaning l.scheme in
    record {
      goes_on : after m (drop l.i l.calls) ≡ after at_start l.calls;
      answered : take l.i l.answers ++ answers m (drop l.i l.calls) ≡ answers at_start l.calls;
      long : length l.answers ≡ g.row.N;
    }
