-- Every history of calls on a new scheme is lawful. Assumes nothing.
use Rattle.std.proofs.Common.{◌≡◌, ℕ, true, false, ◌⊎◌, ◌↔◌, List, [], ◌∷◌, ◌++◌, inl, inr, rules, arith}
use Rattle.std.proofs.lemmas.Bool.Decides.{nat_tests}
use Rattle.scheme.specs.declared.script.Call.{Call}
use Rattle.scheme.specs.declared.script.Call.TheVariants.{Begin, Poll}
use Rattle.scheme.specs.declared.script.Answer.{Answer}
use Rattle.scheme.specs.declared.script.Answer.TheVariants.{Accepted}
use Rattle.scheme.specs.Meaning.{Meaning, Sound, anybody, at_start, on_enter, on_leave, on_begin}
use Rattle.scheme.specs.Polls.{on_poll}
use Rattle.scheme.specs.Scripts.{answer_to, after_call, after, answers}
use Rattle.scheme.specs.Histories.{Any, Since, moment, History, recorded, Leaves, Begins, FindsOver, Visiting, Waiting, Open, AllGone, PolledRight, Right, Lawful}
use Rattle.scheme.proofs.Sets.{somebody, none_in}
use Rattle.scheme.proofs.Polls.{known_awaited}

-- the plain meaning after a history that calls on it can have
pub data Runs : History → Meaning → Type 0 where
  new : Runs [] at_start
  called : {h : History} {m : Meaning} → Runs h m → (c : Call) → Runs (moment c (answer_to c m) ∷ h) (after_call c m)

-- ---- what holds of every meaning

pub enter_sound : (q : ℕ) (m : Meaning) → Sound m → Sound (on_enter q m).next
enter_sound q m s = search rules

pub leave_sound : (q : ℕ) (m : Meaning) → Sound m → Sound (on_leave q m).next
leave_sound q m s = search rules

pub begin_sound : (m : Meaning) → Sound m → Sound (on_begin m).next
begin_sound m s = search rules

pub poll_sound : (m : Meaning) → Sound m → Sound (on_poll m).next
poll_sound m s = search rules

pub call_sound : (c : Call) (m : Meaning) → Sound m → Sound (after_call c m)
call_sound c m s = search (rules, enter_sound, leave_sound, begin_sound, poll_sound)

pub sound : {h : History} {m : Meaning} → Runs h m → Sound m
sound Runs.new = search rules
sound (Runs.called run c) = call_sound c _ (sound run)

-- ---- who is inside, and whether a wait is open

since_inner : {M : Type 0} {Starts Stops : M → Type 0} {x : M} {h : List M} → Since Starts Stops (x ∷ h) → Starts x ⊎ ((¬ (Stops x)) × Since Starts Stops h)
since_inner (Since.starts p) = inl p
since_inner (Since.goes_on n s) = inr (n, s)

none_since : {M : Type 0} {Starts Stops : M → Type 0} → Since Starts Stops [] → ⊥
none_since s = elim s [ ]

visits : {h : History} {m : Meaning} → Runs h m → (r : ℕ) → (m.inside r ≡ true) ↔ Visiting r h
visits Runs.new r = search (rules, none_since)
visits (Runs.called run c) r = search (rules, nat_tests, visits run r, since_inner, Since.starts, Since.goes_on)

waits : {h : History} {m : Meaning} → Runs h m → (m.waits ≡ true) ↔ Waiting h
waits Runs.new = search (rules, none_since)
waits (Runs.called run c) = search (rules, nat_tests, waits run, since_inner, Since.starts, Since.goes_on)

-- ---- whom the open wait awaits

-- the wait that began after older is open, and newer is what came since
record Awaiting (newer older : History) (m : Meaning) : Type 0 where
  waiting : m.waits ≡ true
  awaited_or_left : (r : ℕ) → Visiting r older → (m.awaited r ≡ true) ⊎ Any (Leaves r) newer
  awaited_only : (r : ℕ) → m.awaited r ≡ true → Visiting r older × ¬ (Any (Leaves r) newer)

any_inner : {M : Type 0} {P : M → Type 0} {x : M} {h : List M} → Any P (x ∷ h) → P x ⊎ Any P h
any_inner (Any.here p) = inl p
any_inner (Any.there s) = inr s

none_any : {M : Type 0} {P : M → Type 0} → Any P [] → ⊥
none_any s = elim s [ ]

-- a wait that has just begun awaits the visits under way
begun_now : (c : Call) {h : History} {m : Meaning} → Runs h m → Begins (moment c (answer_to c m)) → Awaiting [] h (after_call c m)
begun_now c run e = search (rules, nat_tests, visits run, none_any)

awaiting_more : (c : Call) (newer older : History) {m : Meaning} → Sound m → ¬ (FindsOver (moment c (answer_to c m))) → Awaiting newer older m → Awaiting (moment c (answer_to c m) ∷ newer) older (after_call c m)
awaiting_more c newer older s not_over so = search (rules, nat_tests, so, s, any_inner, Any.here, Any.there)

awaiting : {h : History} {m : Meaning} → Runs h m → (newer older : History) → h ≡ newer ++ moment Begin Accepted ∷ older → ¬ (Any FindsOver newer) → Awaiting newer older m
awaiting Runs.new [] older e not_over = cc
awaiting Runs.new (y ∷ newer) older e not_over = cc
awaiting (Runs.called {h} {m} run c) [] older e not_over = search (rules, begun_now c run)
awaiting (Runs.called {h} {m} run c) (y ∷ newer) older e not_over = search (rules, Any.here, Any.there, awaiting_more c newer older (sound run), awaiting run newer older)

-- ---- each answer is right

module _ {h : History} {m : Meaning} (run : Runs h m) where
  since_begun : (newer older : History) → Open newer older h → Awaiting newer older m
  since_begun newer older wait = awaiting run newer older wait.begun wait.not_over

  -- nobody is awaited exactly when all are gone that were inside at the start
  nobody_awaited : (newer older : History) → Awaiting newer older m → (anybody m.awaited ≡ false) ↔ AllGone newer older
  nobody_awaited newer older so = search (rules, none_in m.awaited, known_awaited m (sound run), somebody m.awaited, so.awaited_or_left, so.awaited_only)

  pub poll_right : PolledRight (answer_to Poll m) h
  poll_right = record {
    none = grind (arith, nat_tests, waits run);
    over = λ newer older wait. let so = since_begun newer older wait in grind (arith, nat_tests, so.waiting, nobody_awaited newer older so);
    not_yet = λ newer older wait. let so = since_begun newer older wait in grind (arith, nat_tests, so.waiting, nobody_awaited newer older so);
  }

  right : (c : Call) → Right c (answer_to c m) h
  right c = search (rules, nat_tests, visits run, waits run, poll_right)

all_right : {h : History} {m : Meaning} → Runs h m → (newer older : History) (c : Call) (a : Answer) → h ≡ newer ++ moment c a ∷ older → Right c a older
all_right Runs.new [] older c a e = cc
all_right Runs.new (y ∷ newer) older c a e = cc
all_right (Runs.called run d) [] older c a e = search (rules, right run d)
all_right (Runs.called run d) (y ∷ newer) older c a e = all_right run newer older c a (cc)

pub lawful : {h : History} {m : Meaning} → Runs h m → Lawful h m
lawful run =
    record {
      answers = all_right run;
      inside = visits run;
      waits = waits run;
      awaited = λ newer older wait r. let so = since_begun run newer older wait in grind (arith, so.awaited_only r, so.awaited_or_left r);
      quiet = λ n r. search (rules, sound run, waits run);
    }

-- ---- the history of a script

script_runs : (calls : List Call) {h : History} {m : Meaning} → Runs h m → Runs (recorded calls (answers m calls) h) (after m calls)
script_runs [] run = run
script_runs (c ∷ calls) run = script_runs calls (Runs.called run c)

-- any list of calls on a new scheme
pub script_lawful : (calls : List Call) (given : List Answer) (m : Meaning) → m ≡ after at_start calls → given ≡ answers at_start calls → Lawful (recorded calls given []) m
script_lawful calls given m means answered = rw (means, answered) (lawful (script_runs calls Runs.new))
