-- What each call of the plain board answers, and the board and the record area that it leaves. Assumes nothing.
use Rattle.std.specs.Prelude.{ℕ, not, ◌||◌, ◌⊎◌, length, ◌==◌, if◌then◌else◌}
use Rattle.std.proofs.Common.{inl, inr}
use Rattle.scheme.specs.declared.interface.Poll.{Poll}
use Rattle.scheme.specs.declared.interface.Poll.TheVariants.{NoWait, NotYet, Over}
use Rattle.scheme.specs.Meaning.{on_enter, on_leave, on_begin}
use Rattle.scheme.specs.Polls.{on_poll}
use Rattle.record.specs.Making.{Making}
use Rattle.plain.specs.Pools.{Move, Need, is_empty, head_or_0, old_of, needs_begin, link_of, with_move, placed_behind, unlinked, swapped, covering, freeing}
use Rattle.plain.specs.Boards.{Board, Slot, Walk, Area, new_board, with_slot, with_who, with_pool, at_rest, is_wanted, node_of, predecessor, after, is_earlier, record_at, with_record, made_record}
use Rattle.plain.specs.Calls.{Call, Answer}
use Rattle.plain.specs.Refusals.{making_checks, checks, checked}

-- a new board, or the number of the refusal
abbrev pub make : (m n s : ℕ) → Board ⊎ ℕ
make m n s = checked (making_checks m n s) (inl (new_board m n s)) (λ number field. inr number)

pub record Result : Type 0 where
  pub answer : Answer
  pub board : Board
  pub area : Area

module _ (b : Board) (area : Area) where
  abbrev pub unchanged : Answer → Result
  unchanged w = record { answer = w; board = b; area = area }

  abbrev pub stands : ℕ → Slot → Answer → Result
  stands r s w = record { answer = w; board = with_slot r s b; area = area }

  -- reader r steps to node x, or to the end where x is 0
  abbrev pub stepped : ℕ → ℕ → Result
  stepped r x =
      let walk = (b.slots r).walk in
      let k = b.pool.key x in
      if x == 0 then stands r at_rest Answer.end
      else if is_wanted walk k then stands r (record { walk = Walk.none; place = x }) (Answer.found x (b.pool.stamp x) k)
      else stands r (record { walk = walk; place = x }) (Answer.seen x (b.pool.stamp x) k)

  -- what tend does, by what the poll says
  abbrev pub tended : Poll → Result
  tended NoWait =
      if not (is_empty b.pool.due) || needs_begin b.pool.move
      then record { answer = Answer.begun; board = with_who (on_begin b.who).next (with_pool (covering b.pool) b); area = area }
      else unchanged Answer.idle
  tended NotYet = unchanged Answer.waiting
  tended Over = record { answer = Answer.over (length b.pool.covered); board = with_who (on_poll b.who).next (with_pool (freeing b.pool) b); area = area }

-- a call that is not refused
abbrev pub accepted : Making → Board → Area → Call → Result
accepted making b area (Call.enter r) = record { answer = Answer.done; board = with_who (on_enter r b.who).next (with_slot r at_rest b); area = area }
accepted making b area (Call.leave r) = record { answer = Answer.done; board = with_who (on_leave r b.who).next (with_slot r at_rest b); area = area }
accepted making b area (Call.step r) = stepped b area r (link_of b.pool (b.slots r).place)
accepted making b area (Call.look r) = unchanged b area (Answer.shows (record_at area (b.slots r).place))
accepted making b area (Call.from r k) = stands b area r (record { walk = Walk.for_key k; place = 0 }) Answer.done
accepted making b area (Call.aside r k) =
    let x = node_of b k in
    unchanged b area (if x == 0 then Answer.none else Answer.found_aside x (b.pool.stamp x) k (record_at area x))
accepted making b area (Call.put k a v w x y) =
    let new = head_or_0 b.pool.free in
    record {
      answer = Answer.placed new b.pool.next_stamp;
      board = with_pool (placed_behind k (after b a) b.pool) b;
      area = with_record new (made_record (making v w x y)) area;
    }
accepted making b area (Call.swap k v w x y) =
    let new = head_or_0 b.pool.free in
    let old = node_of b k in
    record {
      answer = Answer.placed new b.pool.next_stamp;
      board = with_pool (swapped k (predecessor b old) old b.pool) b;
      area = with_record new (made_record (making v w x y)) area;
    }
accepted making b area (Call.cut k) =
    let old = node_of b k in
    record {
      answer = Answer.removed old (b.pool.stamp old);
      board = with_pool (unlinked (predecessor b old) old b.pool) b;
      area = area;
    }
accepted making b area (Call.move k a) =
    let new = head_or_0 b.pool.free in
    let old = node_of b k in
    let stamp = b.pool.next_stamp in
    record {
      answer = if is_earlier b k a then Answer.earlier new stamp else Answer.later new stamp;
      board = with_pool (with_move (if is_earlier b k a then Move.earlier old new Need.lacking else Move.later old new) (placed_behind k (after b a) b.pool)) b;
      area = with_record new (record_at area old) area;
    }
accepted making b area Call.finish =
    let old = old_of b.pool.move in
    record {
      answer = Answer.removed old (b.pool.stamp old);
      board = with_pool (with_move Move.none (unlinked (predecessor b old) old b.pool)) b;
      area = area;
    }
accepted making b area Call.tend = tended b area (on_poll b.who).answer

-- any call; what is refused changes nothing
abbrev pub result : Making → Board → Area → Call → Result
result making b area c = checked (checks making b area c) (accepted making b area c) (λ number field. unchanged b area (Answer.refused number field))
