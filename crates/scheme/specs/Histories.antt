-- Calls on a scheme and their answers, in the words of visits and waits. Assumes nothing.
use Rattle.std.specs.Prelude.{◌≡◌, ℕ, ◌<◌, true, false, ◌↔◌, List, [], ◌∷◌, ◌++◌}
use Rattle.scheme.specs.declared.interface.Poll.TheVariants.{NoWait, NotYet, Over}
use Rattle.scheme.specs.declared.script.Call.{Call}
use Rattle.scheme.specs.declared.script.Call.TheVariants.{Enter, Leave, Begin, Poll}
use Rattle.scheme.specs.declared.script.Answer.{Answer}
use Rattle.scheme.specs.declared.script.Answer.TheVariants.{Accepted, Refused, Polled}
use Rattle.scheme.specs.Meaning.{Meaning, readers}

-- ---- lists with the newest element first

-- P holds of one of the elements
pub data Any {M : Type 0} (P : M → Type 0) : List M → Type 0 where
  here : {x : M} {h : List M} → P x → Any P (x ∷ h)
  there : {x : M} {h : List M} → Any P h → Any P (x ∷ h)

-- something started and has not stopped since
pub data Since {M : Type 0} (Starts Stops : M → Type 0) : List M → Type 0 where
  starts : {x : M} {h : List M} → Starts x → Since Starts Stops (x ∷ h)
  goes_on : {x : M} {h : List M} → ¬ (Stops x) → Since Starts Stops h → Since Starts Stops (x ∷ h)

-- ---- histories

-- one call and its answer
pub data Moment : Type 0 where
  moment : Call → Answer → Moment

abbrev pub History : Type 0
History = List Moment

-- calls and their answers, the oldest first, put on top of a history
abbrev pub recorded : List Call → List Answer → History → History
recorded [] given h = h
recorded (c ∷ calls) [] h = h
recorded (c ∷ calls) (a ∷ given) h = recorded calls given (moment c a ∷ h)

-- ---- visits and waits

abbrev pub Enters : ℕ → Moment → Type 0
Enters r x = x ≡ moment (Enter r) Accepted

abbrev pub Leaves : ℕ → Moment → Type 0
Leaves r x = x ≡ moment (Leave r) Accepted

abbrev pub Begins : Moment → Type 0
Begins x = x ≡ moment Begin Accepted

abbrev pub FindsOver : Moment → Type 0
FindsOver x = x ≡ moment Poll (Polled Over)

-- the reader is in a visit
abbrev pub Visiting : ℕ → History → Type 0
Visiting r = Since (Enters r) (Leaves r)

-- a wait is open
abbrev pub Waiting : History → Type 0
Waiting = Since Begins FindsOver

-- the open wait of h: it began after older, and was not found over in newer, which is what came since
pub record Open (newer older h : History) : Type 0 where
  pub begun : h ≡ newer ++ moment Begin Accepted ∷ older
  pub not_over : ¬ (Any FindsOver newer)

-- every visit that was under way after older has ended in newer
abbrev pub AllGone : History → History → Type 0
AllGone newer older = (r : ℕ) → Visiting r older → Any (Leaves r) newer

-- ---- the law

-- the call was accepted if P, and refused if not
pub record AcceptedIf (P : Type 0) (a : Answer) : Type 0 where
  pub accepted : (a ≡ Accepted) ↔ P
  pub refused : (a ≡ Refused) ↔ (¬ P)

-- what a poll has to say: none without an open wait; with one, over if all visits that it awaits have ended, and not yet if not
pub record PolledRight (a : Answer) (h : History) : Type 0 where
  pub none : (a ≡ Polled NoWait) ↔ (¬ (Waiting h))
  pub over : (newer older : History) → Open newer older h → (a ≡ Polled Over) ↔ AllGone newer older
  pub not_yet : (newer older : History) → Open newer older h → (a ≡ Polled NotYet) ↔ (¬ (AllGone newer older))

-- the answer a to the call c is right after the history h
abbrev pub Right : Call → Answer → History → Type 0
Right (Enter r) a h = AcceptedIf ((r < readers) × ¬ (Visiting r h)) a
Right (Leave r) a h = AcceptedIf (Visiting r h) a
Right Begin a h = AcceptedIf (¬ (Waiting h)) a
Right Poll a h = PolledRight a h

-- what holds of every history of calls on a new scheme, and of the meaning that it leaves
pub record Lawful (h : History) (m : Meaning) : Type 0 where
  -- each answer is right by what came before it
  pub answers : (newer older : History) (c : Call) (a : Answer) → h ≡ newer ++ moment c a ∷ older → Right c a older
  -- inside are the readers in a visit, and the wait is open that began and was not found over
  pub inside : (r : ℕ) → (m.inside r ≡ true) ↔ Visiting r h
  pub waits : (m.waits ≡ true) ↔ Waiting h
  -- awaited are the readers whose visit was under way at the start of the open wait and has not ended since
  pub awaited : (newer older : History) → Open newer older h → (r : ℕ) → (m.awaited r ≡ true) ↔ (Visiting r older × ¬ (Any (Leaves r) newer))
  pub quiet : ¬ (Waiting h) → (r : ℕ) → m.awaited r ≡ false
