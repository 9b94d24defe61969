-- What a poll answers and leaves. Assumes nothing.
use Rattle.std.specs.Prelude.{Bool, true, false, if◌then◌else◌}
use Rattle.scheme.specs.declared.interface.Poll.{Poll}
use Rattle.scheme.specs.declared.interface.Poll.TheVariants.{NoWait, NotYet, Over}
use Rattle.scheme.specs.Meaning.{Meaning, Outcome, anybody, closed}

-- with no wait open: none, and nothing changes; while somebody is awaited: not yet, and nothing changes; else over, and the wait is closed
abbrev pub on_poll : Meaning → Outcome Poll
on_poll m = record {
  answer = if m.waits then (if anybody m.awaited then NotYet else Over) else NoWait;
  next = if m.waits then (if anybody m.awaited then m else closed m) else m;
}

abbrev pub says_not_yet : Poll → Bool
says_not_yet NoWait = false
says_not_yet NotYet = true
says_not_yet Over = false
