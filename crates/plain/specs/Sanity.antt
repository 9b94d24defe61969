-- What makes sure that the definitions mean what their names say. Assumes nothing.
use Rattle.std.specs.Prelude.{◌≡◌, ℕ, suc, ◌<◌, ◌≤◌, Bool, true, ◌&&◌, List, [], ◌∷◌, ◌++◌, ◌==◌, nat_lt, if◌then◌else◌, IsTrue}
use Rattle.record.specs.Making.{Making}
use Rattle.plain.specs.Pools.{link_of, reached}
use Rattle.plain.specs.Boards.{Board, Area, listed}
use Rattle.plain.specs.Calls.{Call}
use Rattle.plain.specs.Refusals.{Check, making_checks, checks}
use Rattle.plain.specs.Plain.{result}
use Rattle.plain.specs.History.{History, Run}

-- ---- the first refusal that holds is the smallest

-- each number is greater than the one before it, and the first greater than n
abbrev pub ascending : ℕ → List Check → Bool
ascending n [] = true
ascending n (c ∷ cs) = nat_lt n c.number && ascending c.number cs

pub record RefusalsAscend : Type 0 where
  pub of_making : (m n s : ℕ) → IsTrue (ascending 0 (making_checks m n s))
  pub of_calls : (making : Making) (b : Board) (area : Area) (c : Call) → IsTrue (ascending 0 (checks making b area c))

-- ---- the list is cut short nowhere, and no node is lost or in two places

-- how often x is in a list
abbrev pub times : ℕ → List ℕ → ℕ
times x [] = 0
times x (y ∷ ys) = if x == y then suc (times x ys) else times x ys

pub record Whole (b : Board) : Type 0 where
  -- to follow the links one further than the size reaches no further node
  pub list : reached (suc b.size) (link_of b.pool) 0 ≡ listed b
  -- each of the nodes 1 to size is once on the list or on one of the three chains
  pub nodes : (x : ℕ) → 0 < x → x ≤ b.size → times x (listed b ++ (b.pool.free ++ (b.pool.due ++ b.pool.covered))) ≡ 1

-- after any use of a board
abbrev pub BoardsStayWhole : Type 0
BoardsStayWhole = (making : Making) (h : History) (b : Board) (area : Area) → Run (result making) h b area → Whole b
