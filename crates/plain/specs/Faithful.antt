-- What a running board can promise of its making and of each call. Assumes nothing.
use Rattle.std.specs.Prelude.{◌≡◌, ℕ, ◌⊎◌, [], ◌∷◌}
use Rattle.std.proofs.Common.{inl}
use Rattle.record.specs.Making.{Making}
use Rattle.plain.specs.Boards.{Board, Area}
use Rattle.plain.specs.Calls.{Call, Answer}
use Rattle.plain.specs.Plain.{make, result}
use Rattle.plain.specs.History.{History, Run}
use Rattle.plain.specs.Waits.{counts}
use Rattle.plain.specs.Laws.{Lawful}

-- h is a use of a board that leaves b and the record area, and it is lawful
pub record LawfulUse (making : Making) (h : History) (b : Board) (area : Area) : Type 0 where
  pub run : Run (result making) h b area
  pub lawful : Lawful b.size h (counts b)

-- the making answers as the plain board's does, and with a new board a lawful use starts
pub record FaithfulMaking (m n s : ℕ) (answer : Board ⊎ ℕ) : Type 0 where
  pub as_plain : make m n s ≡ answer
  pub starts : (b : Board) → answer ≡ inl b → (making : Making) (area : Area) → LawfulUse making [] b area

-- the call answers and leaves what it does on the plain board, and each use that led to it goes on lawfully
pub record Faithful (making : Making) (b : Board) (area : Area) (c : Call) (answer : Answer) (b' : Board) (area' : Area) : Type 0 where
  pub as_plain : result making b area c ≡ record { answer = answer; board = b'; area = area' }
  pub goes_on : (h : History) → Run (result making) h b area → LawfulUse making (record { call = c; answer = answer; board = b'; area = area' } ∷ h) b' area'

-- whoever answers and leaves what the plain board does keeps the laws, at every stop
pub record AsPlainIsFaithful : Type 0 where
  pub making : (m n s : ℕ) (answer : Board ⊎ ℕ) → make m n s ≡ answer → FaithfulMaking m n s answer
  pub calls : (making : Making) (b : Board) (area : Area) (c : Call) (answer : Answer) (b' : Board) (area' : Area) →
      result making b area c ≡ record { answer = answer; board = b'; area = area' } → Faithful making b area c answer b' area'
