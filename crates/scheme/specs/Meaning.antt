-- What a scheme means, by sets of readers, and what each call answers and leaves. Assumes nothing.
use Rattle.std.specs.Prelude.{◌≡◌, ℕ, zero, suc, ◌<◌, Bool, true, false, if◌then◌else◌, not, ◌&&◌, ◌||◌, ◌==◌, nat_lt}

-- there are readers 0 to 15
abbrev pub readers : ℕ
readers = 16

-- the state of a scheme as two sets of readers and a flag
pub record Meaning : Type 0 where
  pub inside : ℕ → Bool  -- the readers in a visit
  pub waits : Bool  -- a wait is open
  pub awaited : ℕ → Bool  -- the readers whose visits the open wait awaits

-- what holds after any calls on a new scheme
pub record Sound (m : Meaning) : Type 0 where
  -- whoever is inside is a reader
  pub known : (r : ℕ) → m.inside r ≡ true → r < readers
  -- whoever is awaited is inside
  pub within : (r : ℕ) → m.awaited r ≡ true → m.inside r ≡ true
  -- and that only while a wait is open
  pub quiet : (r : ℕ) → m.waits ≡ false → m.awaited r ≡ false

-- ---- sets of readers

abbrev pub nobody : ℕ → Bool
nobody x = false

-- the function f, but at r it is v; of a set: but r is in it or not, as v says
abbrev pub updated : {A : Type 0} → (ℕ → A) → ℕ → A → ℕ → A
updated f r v x = if x == r then v else f x

-- whether one of the numbers below n is in f
abbrev pub anybody_below : (ℕ → Bool) → ℕ → Bool
anybody_below f zero = false
anybody_below f (suc n) = f n || anybody_below f n

-- whether a reader is in f
unfoldable pub anybody : (ℕ → Bool) → Bool
anybody f = anybody_below f readers

-- ---- the meaning of a new scheme, and the meaning after each call that is accepted

abbrev pub at_start : Meaning
at_start = record { inside = nobody; waits = false; awaited = nobody }

abbrev pub entered : Meaning → ℕ → Meaning
entered m r = record { inside = updated m.inside r true; waits = m.waits; awaited = updated m.awaited r false }

abbrev pub left : Meaning → ℕ → Meaning
left m r = record { inside = updated m.inside r false; waits = m.waits; awaited = updated m.awaited r false }

abbrev pub begun : Meaning → Meaning
begun m = record { inside = m.inside; waits = true; awaited = m.inside }

abbrev pub closed : Meaning → Meaning
closed m = record { inside = m.inside; waits = false; awaited = nobody }

-- ---- what each call answers, and the next meaning; what is refused changes nothing

pub record Outcome (A : Type 0) : Type 0 where
  pub answer : A
  pub next : Meaning

abbrev pub may_enter : ℕ → Meaning → Bool
may_enter r m = nat_lt r readers && not (m.inside r)

abbrev pub on_enter : ℕ → Meaning → Outcome Bool
on_enter r m = record { answer = may_enter r m; next = if may_enter r m then entered m r else m }

abbrev pub on_leave : ℕ → Meaning → Outcome Bool
on_leave r m = record { answer = m.inside r; next = if m.inside r then left m r else m }

abbrev pub on_begin : Meaning → Outcome Bool
on_begin m = record { answer = not m.waits; next = if m.waits then m else begun m }

-- a call took one value to another with this answer, as its rule says
pub record Follows {S A : Type 0} (meaning : S → Meaning) (rule : Meaning → Outcome A) (before after : S) (answer : A) : Type 0 where
  pub answers : answer ≡ (rule (meaning before)).answer
  pub next : meaning after ≡ (rule (meaning before)).next
