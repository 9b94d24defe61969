-- What one poll says and leaves. Assumes nothing.
use Rattle.std.proofs.Common.{◌≡◌, ℕ, ◌<◌, true, false, arith}
use Rattle.std.proofs.lemmas.Bool.Decides.{nat_tests}
use Rattle.scheme.specs.Meaning.{Meaning, Sound, anybody}
use Rattle.scheme.specs.Polls.{on_poll, says_not_yet}
use Rattle.scheme.proofs.Sets.{none_in, nobody_in}

-- a poll says not yet exactly when somebody is awaited
pub says_awaited : (m : Meaning) → Sound m → says_not_yet (on_poll m).answer ≡ anybody m.awaited
says_awaited m s = grind (arith, nat_tests, nobody_in m.awaited, s.quiet)

-- a poll changes neither set
pub inside_stays : (m : Meaning) → (on_poll m).next.inside ≡ m.inside
inside_stays m = grind (arith, nat_tests)

pub known_awaited : (m : Meaning) → Sound m → (r : ℕ) → m.awaited r ≡ true → r < 16
known_awaited m s r t = s.known r (s.within r t)

pub awaited_stay : (m : Meaning) → Sound m → (x : ℕ) → (on_poll m).next.awaited x ≡ m.awaited x
awaited_stay m s x = grind (arith, nat_tests, none_in m.awaited, known_awaited m s)

-- with nobody awaited it leaves no wait open
pub closes : (m : Meaning) → anybody m.awaited ≡ false → (on_poll m).next.waits ≡ false
closes m e = grind (arith, nat_tests)
