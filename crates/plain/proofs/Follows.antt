-- What holds of every board (Fine), and what one call gives (Follows).
-- Each call of a reader that is no step, and tend, keep it. Assumes nothing.
use Rattle.std.specs.Prelude.{if◌then◌else◌}
use Rattle.std.proofs.Common.{◌≡◌, ℕ, ◌<◌, ◌≤◌, Bool, true, false, not, ◌||◌, ◌≢◌, [], length, sym, refl, ap, arith}
use Rattle.std.proofs.lemmas.Bool.{cond_both}
use Rattle.scheme.specs.declared.interface.Poll.{Poll}
use Rattle.scheme.specs.declared.interface.Poll.TheVariants.{NoWait, NotYet, Over}
use Rattle.scheme.specs.Meaning.{Meaning, Sound, anybody, entered, left, begun, closed, on_enter, on_leave, on_begin}
use Rattle.scheme.specs.Polls.{on_poll}
use Rattle.scheme.proofs.Sets.{updated_elsewhere}
use Rattle.record.specs.Making.{Making}
use Rattle.plain.specs.Pools.{Pool, is_empty, needs_begin, covering, freeing}
use Rattle.plain.specs.Boards.{Board, Area, Slot, at_rest, with_pool, with_slot, with_who}
use Rattle.plain.specs.Calls.{Call, Answer}
use Rattle.plain.specs.Plain.{Result, accepted, tended, stands, unchanged}
use Rattle.plain.specs.History.{Moment, moment}
use Rattle.plain.specs.Sightings.{Leaves}
use Rattle.plain.proofs.Links.{raised}
use Rattle.plain.proofs.Shape.{Shaped, Guarded, Turned}
use Rattle.plain.proofs.Placing.{Turn}
use Rattle.plain.proofs.Grace.{begin_shaped, over_shaped, begin_turned, over_turned, quiet_turned}

-- if nobody is in a set, no reader is
none_in : (f : ℕ → Bool) → anybody f ≡ false → (k : ℕ) → k < 16 → f k ≡ false
unfolding anybody
none_in f e k l = grind arith

pub record Fine (b : Board) (stage rank : ℕ → ℕ) : Type 0 where
  pub shaped : Shaped b.size b.pool stage rank
  pub sound : Sound b.who
  pub few : b.readers ≤ 16
  pub rests : (r : ℕ) → b.who.inside r ≡ true → Guarded stage (b.who.awaited r) (b.slots r).place
  pub idle : b.who.waits ≡ false → b.pool.covered ≡ []

-- after the moment m, which found the board b and the area a
pub record Follows (b : Board) (a : Area) (stage : ℕ → ℕ) (m : Moment) : Type 0 where
  pub stage' : ℕ → ℕ
  pub rank' : ℕ → ℕ
  pub fine : Fine m.board stage' rank'
  pub sized : m.board.size ≡ b.size
  pub stays : (r : ℕ) → b.who.inside r ≡ true → ¬ (Leaves r m) → m.board.who.inside r ≡ true
  pub turned : (r : ℕ) → b.who.inside r ≡ true → ¬ (Leaves r m) → Turned b.pool m.board.pool a m.area stage stage' (b.who.awaited r) (m.board.who.awaited r)

module _ {b : Board} {stage rank : ℕ → ℕ} (f : Fine b stage rank) (a : Area) where
  -- nothing changes
  pub follows_same : (c : Call) (w : Answer) → Follows b a stage (moment c (unchanged b a w))
  follows_same c w = record {
    stage' = stage;
    rank' = rank;
    fine = f;
    sized = refl;
    stays = λ r i n. i;
    turned = λ r i n. quiet_turned f.shaped a (b.who.awaited r) (b.who.awaited r) refl;
  }

  -- the uplink changes the list
  pub follows_pool : (c : Call) (w : Answer) (q' : Pool) (a' : Area) → Turn b.size b.pool q' a a' stage → Follows b a stage (record { call = c; answer = w; board = with_pool q' b; area = a' })
  follows_pool c w q' a' t = record {
    stage' = t.stage';
    rank' = t.rank';
    fine = record {
      shaped = t.shaped;
      sound = f.sound;
      few = f.few;
      rests = λ r i. (t.turned (b.who.awaited r)).guards (b.slots r).place (f.rests r i);
      idle = λ e. grind arith;
    };
    sized = refl;
    stays = λ r i n. i;
    turned = λ r i n. t.turned (b.who.awaited r);
  }

  -- a reader's own slot changes
  pub follows_slot : (c : Call) (w : Answer) (r : ℕ) (s : Slot) → Guarded stage (b.who.awaited r) s.place → Follows b a stage (moment c (stands b a r s w))
  follows_slot c w r s g = record {
    stage' = stage;
    rank' = rank;
    fine = record {
      shaped = f.shaped;
      sound = f.sound;
      few = f.few;
      rests = λ u i. grind (arith, g, f.rests u);
      idle = f.idle;
    };
    sized = refl;
    stays = λ u i n. i;
    turned = λ u i n. quiet_turned f.shaped a (b.who.awaited u) (b.who.awaited u) refl;
  }

  pub at_head : (aw : Bool) → Guarded stage aw 0
  at_head aw = record { live = omega arith; waits = λ w. absurd (omega arith) }

  -- ---- a visit starts or ends

  -- reader r comes or goes, and is at rest: of the others all is as it was
  reader_turns : (c : Call) (r : ℕ) (w : Meaning) → Sound w → w.waits ≡ b.who.waits →
      ((u : ℕ) → u ≢ r → (w.inside u ≡ b.who.inside u) × (w.awaited u ≡ b.who.awaited u)) →
      ((u : ℕ) → b.who.inside u ≡ true → ¬ (Leaves u (record { call = c; answer = Answer.done; board = with_who w (with_slot r at_rest b); area = a })) → u ≢ r) →
      Follows b a stage (record { call = c; answer = Answer.done; board = with_who w (with_slot r at_rest b); area = a })
  reader_turns c r w sound waits same other = record {
    stage' = stage;
    rank' = rank;
    fine = record {
      shaped = f.shaped;
      sound = sound;
      few = f.few;
      rests = λ u i. grind (arith, at_head (w.awaited u), same u, f.rests u);
      idle = λ e. f.idle (cc);
    };
    sized = refl;
    stays = λ u i n. grind arith;
    turned = λ u i n. quiet_turned f.shaped a (b.who.awaited u) (w.awaited u) (same u (other u i n)).1;
  }

  pub reader_enters : (making : Making) (r : ℕ) → r < b.readers → b.who.inside r ≡ false → Follows b a stage (moment (Call.enter r) (accepted making b a (Call.enter r)))
  reader_enters making r l out =
      rw in_now (reader_turns (Call.enter r) r (entered b.who r) (grind arith) refl
      (λ u n. (grind arith, updated_elsewhere b.who.awaited r u false n))
      (λ u i n e. cc))
    where
      in_now : (on_enter r b.who).next ≡ entered b.who r
      in_now = grind arith

  pub reader_leaves : (making : Making) (r : ℕ) → b.who.inside r ≡ true → Follows b a stage (moment (Call.leave r) (accepted making b a (Call.leave r)))
  reader_leaves making r inside =
      rw out_now (reader_turns (Call.leave r) r (left b.who r) (grind arith) refl
      (λ u n. (grind arith, updated_elsewhere b.who.awaited r u false n))
      (λ u i n e. n (ap Call.leave (sym e), refl)))
    where
      out_now : (on_leave r b.who).next ≡ left b.who r
      out_now = rw inside

  -- ---- a wait begins, or is found over

  wait_begins : b.who.waits ≡ false → Follows b a stage (record { call = Call.tend; answer = Answer.begun; board = with_who (on_begin b.who).next (with_pool (covering b.pool) b); area = a })
  wait_begins e = rw begun_now (record {
    stage' = λ x. raised 1 (stage x);
    rank' = rank;
    fine = record {
      shaped = begin_shaped f.shaped (f.idle e);
      sound = grind arith;
      few = f.few;
      rests = λ u i. grind arith;
      idle = λ w. cc;
    };
    sized = refl;
    stays = λ u i n. i;
    turned = λ u i n. begin_turned f.shaped a (b.who.awaited u) (b.who.inside u) i;
  })
    where
      begun_now : (on_begin b.who).next ≡ begun b.who
      begun_now = rw e

  wait_over : (w : Answer) → b.who.waits ≡ true → anybody b.who.awaited ≡ false → Follows b a stage (record { call = Call.tend; answer = w; board = with_who (on_poll b.who).next (with_pool (freeing b.pool) b); area = a })
  wait_over w e g = rw closed_now (record {
    stage' = λ x. raised 2 (stage x);
    rank' = rank;
    fine = record {
      shaped = over_shaped f.shaped;
      sound = grind arith;
      few = f.few;
      rests = λ u i. (over_turned f.shaped a (b.who.awaited u) false (gone u)).guards (b.slots u).place (f.rests u i);
      idle = λ v. refl;
    };
    sized = refl;
    stays = λ u i n. i;
    turned = λ u i n. over_turned f.shaped a (b.who.awaited u) false (gone u);
  })
    where
      closed_now : (on_poll b.who).next ≡ closed b.who
      closed_now = rw (e, g)

      gone : (u : ℕ) → b.who.awaited u ≡ false
      gone u = grind (arith, none_in b.who.awaited g u)

-- what a poll can say, and when
pub poll_cases : (m : Meaning) (P : Poll → Type 0) →
    (m.waits ≡ false → P NoWait) → (m.waits ≡ true → anybody m.awaited ≡ true → P NotYet) → (m.waits ≡ true → anybody m.awaited ≡ false → P Over) → P (on_poll m).answer
poll_cases m P none not_yet over = cond_both m.waits (if anybody m.awaited then NotYet else Over) NoWait P (λ e. cond_both (anybody m.awaited) NotYet Over P (not_yet e) (over e)) none

pub tend_follows : {b : Board} {stage rank : ℕ → ℕ} → Fine b stage rank → (a : Area) (making : Making) → Follows b a stage (moment Call.tend (accepted making b a Call.tend))
tend_follows {b} {stage} f a making = poll_cases b.who (λ (said : Poll). Follows b a stage (moment Call.tend (tended b a said)))
    (λ e. cond_both (not (is_empty b.pool.due) || needs_begin b.pool.move) _ _ (λ (res : Result). Follows b a stage (moment Call.tend res))
    (λ g. wait_begins f a e)
    (λ g. follows_same f a Call.tend Answer.idle))
    (λ e g. follows_same f a Call.tend Answer.waiting)
    (λ e g. wait_over f a (Answer.over (length b.pool.covered)) e g)
