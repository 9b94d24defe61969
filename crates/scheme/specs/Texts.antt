-- How calls and their answers print. Assumes nothing.
use Rattle.std.specs.Prelude.{ℕ, List, ◌++◌, codes}
use Rattle.std.specs.Fmt.{decimal}
use Rattle.scheme.specs.declared.interface.Poll.{Poll}
use Rattle.scheme.specs.declared.interface.Poll.TheVariants as polls
use Rattle.scheme.specs.declared.script.Call.{Call}
use Rattle.scheme.specs.declared.script.Call.TheVariants as calls
use Rattle.scheme.specs.declared.script.Answer.{Answer}
use Rattle.scheme.specs.declared.script.Answer.TheVariants.{Accepted, Refused, Polled}

abbrev pub poll_text : Poll → List ℕ
poll_text polls.NoWait = codes "none"
poll_text polls.NotYet = codes "not yet"
poll_text polls.Over = codes "over"

abbrev pub answer_text : Answer → List ℕ
answer_text Accepted = codes "accepted"
answer_text Refused = codes "refused"
answer_text (Polled poll) = poll_text poll

abbrev pub call_text : Call → List ℕ
call_text (calls.Enter reader) = codes "enter " ++ decimal reader
call_text (calls.Leave reader) = codes "leave " ++ decimal reader
call_text calls.Begin = codes "begin"
call_text calls.Poll = codes "poll"
