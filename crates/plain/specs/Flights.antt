-- Worked uses of the plain board: what is called, what is answered, and what is left at the end. Assumes nothing.
use Rattle.std.specs.Prelude.{◌≡◌, ℕ, List, [], ◌∷◌, replicate, pos}
use Rattle.std.proofs.Common.{inl, inr}
use Rattle.record.specs.Making.{Making}
use Rattle.record.specs.Ways.{way_making}
use Rattle.record.specs.Pars.{par_making}
use Rattle.plain.specs.Boards.{Board, Area, new_board, listed}
use Rattle.plain.specs.Calls.{Call, Answer}
use Rattle.plain.specs.Calls.{Call.enter, Call.leave, Call.from, Call.step, Call.put, Call.cut, Call.move, Call.finish, Call.tend}
use Rattle.plain.specs.Calls.{Answer.done, Answer.seen, Answer.found, Answer.end, Answer.placed, Answer.removed, Answer.earlier, Answer.later, Answer.begun, Answer.waiting, Answer.over, Answer.refused}
use Rattle.plain.specs.Refusals.{last_stamp}
use Rattle.plain.specs.Plain.{make, result}
use Rattle.plain.specs.Sightings.{Sighting, sighting}

-- what the calls answer, one after the other
abbrev pub answers : Making → Board → Area → List Call → List Answer
answers making b area [] = []
answers making b area (c ∷ cs) =
    let r = result making b area c in
    r.answer ∷ answers making r.board r.area cs

-- what is left at the end: the listed nodes in order, with stamp, key and record, and the three chains
pub record Ending : Type 0 where
  pub items : List Sighting
  pub free : List ℕ
  pub due : List ℕ
  pub covered : List ℕ

abbrev pub items_at : Board → Area → List ℕ → List Sighting
items_at b area [] = []
items_at b area (x ∷ xs) = sighting x (b.pool.stamp x) (b.pool.key x) area ∷ items_at b area xs

abbrev pub ending : Making → Board → Area → List Call → Ending
ending making b area [] = record { items = items_at b area (listed b); free = b.pool.free; due = b.pool.due; covered = b.pool.covered }
ending making b area (c ∷ cs) =
    let r = result making b area c in
    ending making r.board r.area cs

-- answers on a new board for two readers, with n nodes, the first stamp s and n records
abbrev pub flown : Making → (n s : ℕ) → List Call → List Answer
flown making n s cs = answers making (new_board 2 n s) (replicate n []) cs

-- a record that both kinds have
abbrev pub place : ℕ → ℕ → Call
place k a = put k a (pos 5) (pos 5) (pos 5) (pos 5)

-- the list 7, 9 in three nodes
abbrev pub seven_nine : List Call → List Answer
seven_nine cs = flown par_making 3 1 (place 7 0 ∷ place 9 7 ∷ cs)

abbrev pub cut_under_a_walk : List Call
cut_under_a_walk =
    -- two entries, in nodes 1 and 2
    put 7 0 (pos 50) (pos 0) (pos 100) (pos 0) ∷ put 9 7 (pos 20) (pos 0) (pos 90) (pos 0) ∷
    -- a reader that wants the second stands on the first
    enter 0 ∷ from 0 9 ∷ step 0 ∷
    -- which is cut under it: the wait lasts, and the reader finds its way on
    cut 7 ∷ tend ∷ tend ∷ step 0 ∷
    -- once the reader has left, the wait is over and the node is taken anew
    leave 0 ∷ tend ∷ put 7 9 (pos 51) (pos 0) (pos 100) (pos 0) ∷
    -- nobody leaves twice
    leave 0 ∷ []

pub record Flights : Type 0 where
  -- the largest board, and one reader or one node too many
  pub largest : make 16 255 1 ≡ inl (new_board 16 255 1)
  pub readers_over : make 17 255 1 ≡ inr 1
  pub nodes_over : make 16 256 1 ≡ inr 2
  -- a walk on a new board is at its end at once
  pub new_walk : (n s : ℕ) → flown par_making n s (enter 0 ∷ from 0 0 ∷ step 0 ∷ step 0 ∷ []) ≡ done ∷ done ∷ end ∷ refused 7 0 ∷ []
  -- the only node is taken, removed, awaited and taken again
  pub one_node : flown par_making 1 1 (place 5 0 ∷ place 6 5 ∷ cut 5 ∷ tend ∷ tend ∷ place 6 0 ∷ [])
      ≡ placed 1 1 ∷ refused 15 0 ∷ removed 1 1 ∷ begun ∷ over 1 ∷ placed 1 2 ∷ []
  -- the last stamp is given once
  pub stamps_end : flown par_making 2 last_stamp (place 5 0 ∷ place 6 5 ∷ []) ≡ placed 1 last_stamp ∷ refused 16 0 ∷ []
  -- an earlier move is finished after a wait, a later one at once, and none goes behind itself
  pub earlier_move : seven_nine (move 9 0 ∷ finish ∷ tend ∷ tend ∷ finish ∷ [])
      ≡ placed 1 1 ∷ placed 2 2 ∷ earlier 3 3 ∷ refused 19 0 ∷ begun ∷ over 0 ∷ removed 2 2 ∷ []
  pub later_move : seven_nine (move 7 9 ∷ finish ∷ []) ≡ placed 1 1 ∷ placed 2 2 ∷ later 3 3 ∷ removed 1 1 ∷ []
  pub onto_itself : seven_nine (move 7 7 ∷ []) ≡ placed 1 1 ∷ placed 2 2 ∷ refused 14 0 ∷ []
  -- records at a limit, and behind it
  pub way_good : flown way_making 1 1 (put 7 0 (pos 900_000_000) (pos 0) (pos 0) (pos 0) ∷ []) ≡ placed 1 1 ∷ []
  pub way_bad : flown way_making 1 1 (put 7 0 (pos 900_000_001) (pos 0) (pos 0) (pos 0) ∷ []) ≡ refused 20 1 ∷ []
  pub par_good : flown par_making 1 1 (put 7 0 (pos 5) (pos 5) (pos 5) (pos 0) ∷ []) ≡ placed 1 1 ∷ []
  pub par_bad : flown par_making 1 1 (put 7 0 (pos 6) (pos 0) (pos 5) (pos 0) ∷ []) ≡ refused 20 1 ∷ []
  -- a reader stands on a node that is cut, and the wait lasts until it leaves
  pub walk_under_a_cut : flown par_making 3 10 cut_under_a_walk
      ≡ placed 1 10 ∷ placed 2 11 ∷
      done ∷ done ∷ seen 1 10 7 ∷ removed 1 10 ∷ begun ∷ waiting ∷ found 2 11 9 ∷ done ∷ over 1 ∷
      placed 1 12 ∷ refused 5 0 ∷ []
  pub cut_at_the_end : ending par_making (new_board 2 3 10) (replicate 3 []) cut_under_a_walk ≡ record {
    items =
        record { node = 2; stamp = 11; key = 9; fields = pos 20 ∷ pos 0 ∷ pos 90 ∷ [] } ∷
        record { node = 1; stamp = 12; key = 7; fields = pos 51 ∷ pos 0 ∷ pos 100 ∷ [] } ∷ [];
    free = 3 ∷ [];
    due = [];
    covered = [];
  }
