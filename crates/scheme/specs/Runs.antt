-- What is promised of any list of calls on a new scheme. Assumes nothing.
use Rattle.std.specs.Prelude.{◌≡◌, List, []}
use Rattle.scheme.specs.declared.script.Call.{Call}
use Rattle.scheme.specs.declared.script.Answer.{Answer}
use Rattle.scheme.specs.Meaning.{Meaning, at_start}
use Rattle.scheme.specs.Scripts.{after, answers}
use Rattle.scheme.specs.Histories.{recorded, Lawful}

pub record Ran {S : Type 0} (meaning : S → Meaning) (calls : List Call) (scheme : S) (given : List Answer) : Type 0 where
  -- the scheme means what the plain meaning is after the same calls, and answered as it does
  pub means : meaning scheme ≡ after at_start calls
  pub answered : given ≡ answers at_start calls
  -- and, in the words of visits and waits, the answers and the meaning are right
  pub lawful : Lawful (recorded calls given []) (meaning scheme)
