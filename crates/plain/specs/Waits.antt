-- Removals and waits: when removed nodes are free again, and when a wait is found over. Assumes nothing.
use Rattle.std.specs.Prelude.{◌≡◌, ℕ, suc, Bool, false, not, ◌||◌, ◌↔◌, List, [], ◌∷◌, ◌++◌, length, ℤ, ◌==◌}
use Rattle.scheme.specs.Counts.{count_below}
use Rattle.scheme.specs.Histories.{Any}
use Rattle.plain.specs.Boards.{Board, listed}
use Rattle.plain.specs.Calls.{Call, Answer}
use Rattle.plain.specs.History.{Moment, History}
use Rattle.plain.specs.Sightings.{Leaves, Visiting}

-- ---- removals and waits

pub data Removes (m : Moment) : Type 0 where
  by_cut : (k n s : ℕ) → m.call ≡ Call.cut k → m.answer ≡ Answer.removed n s → Removes m
  by_swap : (k : ℕ) (v w x y : ℤ) (n s : ℕ) → m.call ≡ Call.swap k v w x y → m.answer ≡ Answer.placed n s → Removes m
  by_finish : (n s : ℕ) → m.call ≡ Call.finish → m.answer ≡ Answer.removed n s → Removes m

abbrev pub Begins : Moment → Type 0
Begins m = (m.call ≡ Call.tend) × (m.answer ≡ Answer.begun)

pub record FindsOver (m : Moment) : Type 0 where
  pub count : ℕ
  pub asked : m.call ≡ Call.tend
  pub said : m.answer ≡ Answer.over count

-- a wait began and was found over
pub data WaitPassed : History → Type 0 where
  found : {m : Moment} {h : History} → FindsOver m → Any Begins h → WaitPassed (m ∷ h)
  earlier : {m : Moment} {h : History} → WaitPassed h → WaitPassed (m ∷ h)

-- ---- the two counts

abbrev pub has : List ℕ → ℕ → Bool
has [] x = false
has (y ∷ ys) x = x == y || has ys x

-- the nodes on the free chain, and the nodes 1 to size that the links from the front do not reach
pub record Counts : Type 0 where
  pub free : ℕ
  pub not_listed : ℕ

abbrev pub counts : Board → Counts
counts b = record { free = length b.pool.free; not_listed = count_below (λ i. not (has (listed b) (suc i))) b.size }

-- ---- the laws

-- each removal came before the start of a wait that has since been found over
abbrev pub Settled : History → Type 0
Settled h = (newer older : History) (m : Moment) → h ≡ newer ++ m ∷ older → Removes m → WaitPassed newer

-- the two counts are equal exactly when every removal is settled
abbrev pub CountsSettle : Counts → History → Type 0
CountsSettle c h = (c.free ≡ c.not_listed) ↔ Settled h

-- every visit that was under way after older has ended in newer
abbrev pub AllGone : History → History → Type 0
AllGone newer older = (r : ℕ) → Visiting r older → Any (Leaves r) newer

-- where a wait began at b and was not found over before the newest call, which is a tend:
-- this finds it over exactly when all visits that were under way at the start have ended
abbrev pub WaitsEndInTime : History → Type 0
WaitsEndInTime h = (m b : Moment) (newer older : History) → h ≡ m ∷ (newer ++ b ∷ older) → m.call ≡ Call.tend → Begins b → ¬ (Any FindsOver newer) →
    FindsOver m ↔ AllGone newer older
