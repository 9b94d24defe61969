-- Any list of calls on a new scheme: what the plain meaning answers, and what it is after them. Assumes nothing.
use Rattle.std.specs.Prelude.{Bool, true, false, List, [], ◌∷◌}
use Rattle.scheme.specs.declared.script.Call.{Call}
use Rattle.scheme.specs.declared.script.Call.TheVariants.{Enter, Leave, Begin, Poll}
use Rattle.scheme.specs.declared.script.Answer.{Answer}
use Rattle.scheme.specs.declared.script.Answer.TheVariants.{Accepted, Refused, Polled}
use Rattle.scheme.specs.Meaning.{Meaning, Outcome, on_enter, on_leave, on_begin}
use Rattle.scheme.specs.Polls.{on_poll}

abbrev pub told : Bool → Answer
told true = Accepted
told false = Refused

abbrev pub answer_to : Call → Meaning → Answer
answer_to (Enter r) m = told (on_enter r m).answer
answer_to (Leave r) m = told (on_leave r m).answer
answer_to Begin m = told (on_begin m).answer
answer_to Poll m = Polled (on_poll m).answer

abbrev pub after_call : Call → Meaning → Meaning
after_call (Enter r) m = (on_enter r m).next
after_call (Leave r) m = (on_leave r m).next
after_call Begin m = (on_begin m).next
after_call Poll m = (on_poll m).next

abbrev pub on_call : Call → Meaning → Outcome Answer
on_call c m = record { answer = answer_to c m; next = after_call c m }

-- the plain meaning after the calls, and its answers to them
abbrev pub after : Meaning → List Call → Meaning
after m [] = m
after m (c ∷ cs) = after (after_call c m) cs

abbrev pub answers : Meaning → List Call → List Answer
answers m [] = []
answers m (c ∷ cs) = answer_to c m ∷ answers (after_call c m) cs
