-- Walks: how long they are, what they miss, and what they show. Assumes nothing.
use Rattle.std.specs.Prelude.{◌≡◌, ℕ, ◌+◌, ◌≤◌, IsTrue, ◌⊎◌, [], ◌∷◌, ◌++◌}
use Rattle.scheme.specs.Histories.{Any}
use Rattle.plain.specs.Boards.{is_listed}
use Rattle.plain.specs.Calls.{Call, Answer}
use Rattle.plain.specs.History.{Moment, History, Every, Count}
use Rattle.plain.specs.Sightings.{Leaves, Sighting, StepsOn}

-- ---- walks

pub record Starts (r : ℕ) (m : Moment) : Type 0 where
  pub wanted : ℕ
  pub asked : m.call ≡ Call.from r wanted
  pub granted : m.answer ≡ Answer.done

abbrev pub ReachesEnd : ℕ → Moment → Type 0
ReachesEnd r m = (m.call ≡ Call.step r) × (m.answer ≡ Answer.end)

pub record Finds (r : ℕ) (m : Moment) : Type 0 where
  pub node : ℕ
  pub stamp : ℕ
  pub key : ℕ
  pub asked : m.call ≡ Call.step r
  pub said : m.answer ≡ Answer.found node stamp key

-- the moments so far of a walk that is under way
pub data Walking (r : ℕ) : History → Type 0 where
  starts : {m : Moment} → Starts r m → Walking r (m ∷ [])
  goes_on : {m : Moment} {w : History} → ¬ (Starts r m) → ¬ (Leaves r m) → ¬ (Finds r m) → ¬ (ReachesEnd r m) → Walking r w → Walking r (m ∷ w)

-- the moments so far of a walk that is under way, or that its last step has just ended
pub data Walked (r : ℕ) : History → Type 0 where
  under_way : {w : History} → Walking r w → Walked r w
  ended : {m : Moment} {w : History} → Finds r m ⊎ ReachesEnd r m → Walking r w → Walked r (m ∷ w)

-- ---- steps, and the keys that they sight

-- the reader takes a step: it calls, and is not refused
pub record Steps (r : ℕ) (m : Moment) : Type 0 where
  pub asked : m.call ≡ Call.step r
  pub granted : (number field : ℕ) → ¬ (m.answer ≡ Answer.refused number field)

pub record StepsOnKey (r k : ℕ) (m : Moment) : Type 0 where
  pub sighting : Sighting
  pub on : StepsOn r m sighting
  pub key : sighting.key ≡ k

abbrev pub Listed : ℕ → Moment → Type 0
Listed k m = IsTrue (is_listed m.board k)

-- ---- the laws, of a walk whose newest moment is the newest of the history; older is what came before the walk

-- no walk takes more steps than there are nodes, and one more
abbrev pub WalksAreShort : ℕ → History → Type 0
WalksAreShort size h = (r n : ℕ) (w older : History) → h ≡ w ++ older → Walked r w → Count (Steps r) w n → n ≤ size + 1

-- a walk that reaches its end stepped on every key that was listed all the while
abbrev pub WalksAreComplete : History → Type 0
WalksAreComplete h = (r k : ℕ) (m : Moment) (w older : History) → h ≡ m ∷ (w ++ older) → Walking r w → ReachesEnd r m → Every (Listed k) (m ∷ w) → Any (StepsOnKey r k) (m ∷ w)

-- a key that a walk steps on was listed at one of its moments so far
abbrev pub WalksAreHonest : History → Type 0
WalksAreHonest h = (r k : ℕ) (m : Moment) (w older : History) → h ≡ m ∷ (w ++ older) → Walking r w → StepsOnKey r k m → Any (Listed k) (m ∷ w)
