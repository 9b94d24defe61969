-- The uses of a board: its making, then any calls in any order, with any arguments. Assumes nothing.
use Rattle.std.specs.Prelude.{◌≡◌, ℕ, suc, List, [], ◌∷◌}
use Rattle.std.proofs.Common.{inl}
use Rattle.plain.specs.Boards.{Board, Area}
use Rattle.plain.specs.Calls.{Call, Answer}
use Rattle.plain.specs.Plain.{Result, make}

-- one call, its answer, and the board and the record area that it left
pub record Moment : Type 0 where
  pub call : Call
  pub answer : Answer
  pub board : Board
  pub area : Area

abbrev pub moment : Call → Result → Moment
moment c res = record { call = c; answer = res.answer; board = res.board; area = res.area }

-- the newest moment first
abbrev pub History : Type 0
History = List Moment

-- what any call with any arguments answers and leaves, given the board and the record area that it finds
abbrev pub Play : Type 0
Play = Board → Area → Call → Result

-- after the making and the calls of the history, each carried out by play, the board and the record area are these
pub data Run (play : Play) : History → Board → Area → Type 0 where
  made : {b : Board} (m n s : ℕ) (area : Area) → make m n s ≡ inl b → Run play [] b area
  called : {h : History} {b : Board} {area : Area} → Run play h b area → (c : Call) →
      Run play (moment c (play b area c) ∷ h) (play b area c).board (play b area c).area

-- P holds of each moment
abbrev pub Every : (Moment → Type 0) → History → Type 0
Every P [] = Unit {0}
Every P (m ∷ h) = P m × Every P h

-- P holds of n moments
pub data Count (P : Moment → Type 0) : History → ℕ → Type 0 where
  none : Count P [] 0
  one_more : {m : Moment} {h : History} {n : ℕ} → P m → Count P h n → Count P (m ∷ h) (suc n)
  no_more : {m : Moment} {h : History} {n : ℕ} → ¬ (P m) → Count P h n → Count P (m ∷ h) n
