-- The calls of a board, and their answers. Assumes nothing.
use Rattle.std.specs.Prelude.{ℕ, ℤ}
use Rattle.plain.specs.Boards.{Record}

pub data Call : Type 0 where
  -- by a reader
  enter leave step look : (reader : ℕ) → Call
  from aside : (reader key : ℕ) → Call
  -- by the uplink; v to y are the numbers that a record is made of
  put : (key after : ℕ) (v w x y : ℤ) → Call
  swap : (key : ℕ) (v w x y : ℤ) → Call
  cut : (key : ℕ) → Call
  move : (key after : ℕ) → Call
  finish tend : Call

pub data Answer : Type 0 where
  done : Answer  -- to enter, leave and from
  seen found : (node stamp key : ℕ) → Answer  -- to step
  end : Answer
  shows : Record → Answer  -- to look
  found_aside : (node stamp key : ℕ) → Record → Answer  -- to aside
  none : Answer
  placed : (node stamp : ℕ) → Answer  -- to put and swap, of the new node
  removed : (node stamp : ℕ) → Answer  -- to cut and finish, of the old node
  earlier later : (node stamp : ℕ) → Answer  -- to move, of the new node
  idle begun waiting : Answer  -- to tend
  over : (count : ℕ) → Answer
  refused : (number field : ℕ) → Answer  -- to any; the field at fault, or 0
