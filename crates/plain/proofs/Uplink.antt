-- Each accepted put, swap, cut, move, finish and step keeps what holds of every board.
-- So does every call, accepted or refused (follows). Assumes nothing.
use Rattle.std.specs.Prelude.{◌==◌, if◌then◌else◌}
use Rattle.std.proofs.Common.{◌≡◌, ℕ, ◌<◌, Bool, true, false, not, ◌&&◌, ◌≢◌, ◌⊎◌, ◌∷◌, ℤ, sym, refl, ap, inl, inr, arith}
use Rattle.std.proofs.lemmas.Bool.{cases_eq, ne_eqb, eqb-false, cond_both, or_parts}
use Rattle.record.specs.Making.{Making}
use Rattle.plain.specs.Pools.{Pool, Move, Need, link_of, precedes, old_of, under_way, lacks_wait, with_move, placed_behind, unlinked, before, head_or_0, tail}
use Rattle.plain.specs.Boards.{Board, Area, Walk, at_rest, is_wanted, node_of, is_listed, listed, after, is_earlier, made_record, record_at, with_record}
use Rattle.plain.specs.Calls.{Call, Answer}
use Rattle.plain.specs.Refusals.{checks}
use Rattle.plain.specs.Plain.{Result, accepted, result, unchanged}
use Rattle.plain.specs.History.{moment}
use Rattle.plain.proofs.Links.{Ahead, ahead_ne, ahead_trans, ahead_from, ahead_to}
use Rattle.plain.proofs.Reached.{precedes_ahead, ahead_chain}
use Rattle.plain.proofs.Shape.{Shaped, Two, Moved, Carried, Owed, Guarded, listed_stage, listed_chain, node_there, not_there}
use Rattle.plain.proofs.Placing.{placing, still_ahead, behind_p, new_listed, old_ne}
use Rattle.plain.proofs.Removing.{removing, swapping, not_listed, was_ahead}
use Rattle.plain.proofs.Removing
use Rattle.plain.proofs.Checks.{Passed, checked_both, not_empty, no_move}
use Rattle.plain.proofs.Follows.{Fine, Follows, follows_pool, follows_same, follows_slot, reader_enters, reader_leaves, tend_follows, at_head}

module _ {b : Board} {stage rank : ℕ → ℕ} (f : Fine b stage rank) (a : Area) (making : Making) where
  abbrev q : Pool
  q = b.pool

  abbrev lk : ℕ → ℕ
  lk = link_of b.pool

  s : Shaped b.size b.pool stage rank
  s = f.shaped

  after_there : (k : ℕ) → (not (k == 0) && not (is_listed b k)) ≡ false → (after b k ≡ 0) ⊎ Ahead lk (after b k) 0
  after_there k e = elim (cases_eq k 0) [
    | inl z ↦ inl (grind arith)
    | inr n ↦ inr (rw (ne_eqb k 0 n) (node_there s k (grind arith)).0)
  ]

  no_old : q.move ≡ Move.none → {x : ℕ} → Ahead lk x 0 → x ≢ old_of q.move
  no_old still c i = ahead_ne c (cc)

  not_owed : q.move ≡ Move.none → (aw : Bool) (c : ℕ) → Owed q.move aw c → ⊥
  not_owed still aw c w = rw still at w

  puts : (k h : ℕ) (v w x y : ℤ) → Passed (checks making b a (Call.put k h v w x y)) → Follows b a stage (moment (Call.put k h v w x y) (accepted making b a (Call.put k h v w x y)))
  puts k h v w x y passed =
      let not_listed = passed.1.1.0 in
      let after_listed = passed.1.1.1.0 in
      let some_free = passed.1.1.1.1.0 in
      let still = no_move q.move passed.1.1.1.1.1.1.0 in
      follows_pool f a (Call.put k h v w x y) (Answer.placed (head_or_0 q.free) q.next_stamp) (placed_behind k (after b h) q) (with_record (head_or_0 q.free) (made_record (making v w x y)) a)
      (placing s k (not_empty q.free some_free) (after_there h after_listed) q.move a (made_record (making v w x y))
      (ap old_of still)
      (λ z az n. not_there s k not_listed z az)
      (rw still tt)
      (not_owed still))

  swaps : (k : ℕ) (v w x y : ℤ) → Passed (checks making b a (Call.swap k v w x y)) → Follows b a stage (moment (Call.swap k v w x y) (accepted making b a (Call.swap k v w x y)))
  swaps k v w x y passed =
      let there = node_there s k (grind arith) in
      let some_free = passed.1.1.1.0 in
      let still = no_move q.move passed.1.1.1.1.1.0 in
      follows_pool f a (Call.swap k v w x y) (Answer.placed (head_or_0 q.free) q.next_stamp) _ _
      (swapping s there.0 k (not_empty q.free some_free) a (made_record (making v w x y)) still there.1)

  cuts : (k : ℕ) → Passed (checks making b a (Call.cut k)) → Follows b a stage (moment (Call.cut k) (accepted making b a (Call.cut k)))
  cuts k passed =
      let there = node_there s k (grind arith) in
      let still = no_move q.move passed.1.1.0 in
      let x = node_of b k in
      follows_pool f a (Call.cut k) (Answer.removed x (q.stamp x)) (unlinked (before 0 x (listed b)) x q) a
      (removing s there.0 q.move a
      (λ y z ay az dy dz ny nz i. s.keys_apart y z ay az ny nz i)
      (rw still tt)
      (not_owed still)
      (λ u l c. Carried.gone (λ w aw i.
      let bw = was_ahead s there.0 q.move aw in
      not_listed s there.0 q.move aw (s.keys_apart w x bw there.0 (no_old still bw) (no_old still there.0) i))))

  -- ---- a move

  module _ (k h : ℕ) where
    abbrev old : ℕ
    old = node_of b k

    abbrev new : ℕ
    new = head_or_0 q.free

    abbrev the_move : Move
    the_move = if is_earlier b k h then Move.earlier old new Need.lacking else Move.later old new

    abbrev q₁ : Pool
    q₁ = with_move the_move (placed_behind k (after b h) q)

    module _ (free : q.free ≡ new ∷ tail q.free) (there : (after b h ≡ 0) ⊎ Ahead lk (after b h) 0) (listed_old : Ahead lk old 0) (key : q.key old ≡ k) where
      two : Two (link_of q₁) q₁.key old new
      two = record {
        old = still_ahead s k free there the_move (omega arith) listed_old;
        copy = new_listed s k free there the_move;
        differ = old_ne s k free there the_move listed_old;
        alike = grind arith;
      }

      -- a move that is not earlier puts the copy behind the old node
      behind : (not (h == 0) && not (is_listed b h)) ≡ false → (h == k) ≡ false → is_earlier b k h ≡ false → Ahead (link_of q₁) new old
      behind after_listed other not_earlier =
          let p = or_parts (h == 0) (precedes (node_of b h) (node_of b k) (listed b)) not_earlier in
          let at_h : after b h ≡ node_of b h = rw p.0 in
          let l : is_listed b h ≡ true = grind arith in
          let n = node_there s h l in
          let apart : node_of b h ≢ old = λ w. eqb-false h k other (cc) in
          let c = precedes_ahead (node_of b h) old (listed_chain s) (ahead_chain (listed_chain s) n.0) (ahead_chain (listed_chain s) listed_old) apart p.1 in
          let live = listed_stage s listed_old in
          ahead_trans (still_ahead s k free there the_move (omega arith) (ahead_to (sym at_h) c)) (behind_p s k free there the_move)

    moves : Passed (checks making b a (Call.move k h)) → Follows b a stage (moment (Call.move k h) (accepted making b a (Call.move k h)))
    moves passed =
        let n = node_there s k (grind arith) in
        let after_listed = passed.1.1.1.0 in
        let other = passed.1.1.1.1.0 in
        let free = not_empty q.free passed.1.1.1.1.1.0 in
        let still = no_move q.move passed.1.1.1.1.1.1.1.0 in
        let there = after_there h after_listed in
        follows_pool f a (Call.move k h) _ _ _
        (placing s k free there the_move a (record_at a old)
        (ap old_of still)
        (λ z az d i. d (grind (arith, s.keys_apart z old az n.0 (no_old still az) (no_old still n.0))))
        (let t = two free there n.0 n.1 in grind (arith, behind free there n.0 n.1 after_listed other))
        (λ aw c w. grind arith))

  -- ---- the finish of a move

  -- the copy is ahead of the old node, or every walk that could miss it has ended
  record Finishing : Type 0 where
    old : ℕ
    copy : ℕ
    is_old : old_of q.move ≡ old
    both : Two lk q.key old copy
    way : Ahead lk copy old ⊎ ((aw : Bool) → Owed q.move aw copy)

  finishing : (m : Move) → q.move ≡ m → Moved q m → not (under_way m) ≡ false → lacks_wait m ≡ false → Finishing
  finishing (Move.later o c) e t i l = record { old = o; copy = c; is_old = ap old_of e; both = t.0; way = inl t.1 }
  finishing (Move.earlier o c Need.met) e t i l = record { old = o; copy = c; is_old = ap old_of e; both = t; way = inr (λ aw. rw e refl) }
  finishing m e t i l = cc

  finishes : Passed (checks making b a Call.finish) → Follows b a stage (moment Call.finish (accepted making b a Call.finish))
  finishes passed =
      let p = finishing q.move refl s.moved passed.0 passed.1.0 in
      let x = old_of q.move in
      let xa : Ahead lk x 0 = ahead_to (sym p.is_old) p.both.old in
      follows_pool f a Call.finish (Answer.removed x (q.stamp x)) (with_move Move.none (unlinked (before 0 x (listed b)) x q)) a
      (removing s xa Move.none a
      (λ y z ay az dy dz ny nz i. s.keys_apart y z ay az dy dz i)
      tt
      (λ aw c w. w)
      (lost p xa))
    where
      lost : (p : Finishing) (xa : Ahead lk (old_of q.move) 0) (u : ℕ) → stage u < 3 → Ahead lk (old_of q.move) u →
          Carried q (with_move Move.none (unlinked (before 0 (old_of q.move) (listed b)) (old_of q.move) q)) u (old_of q.move)
      lost p xa u l ax =
          let x = old_of q.move in
          let c = p.copy in
          let apart : c ≢ x = λ w. p.both.differ (cc) in
          let alike : q.key c ≡ q.key x = cc in
          elim p.way [
            | inl w ↦ Carried.replaced c (Removing.still_ahead s xa Move.none apart (ahead_trans ax (ahead_from (sym p.is_old) w))) alike
            | inr w ↦ Carried.copied c w alike (λ ac. Removing.still_ahead s xa Move.none apart ac)
          ]

  -- ---- a step

  goes_on : (aw : Bool) (x : ℕ) → Guarded stage aw x → Guarded stage aw (lk x)
  goes_on aw x g =
      record { live = omega arith; waits = λ w. g.waits (omega arith) }

  steps : (r : ℕ) → Passed (checks making b a (Call.step r)) → Follows b a stage (moment (Call.step r) (accepted making b a (Call.step r)))
  steps r passed =
      let i : b.who.inside r ≡ true = grind arith in
      let z = lk (b.slots r).place in
      let g = goes_on (b.who.awaited r) (b.slots r).place (f.rests r i) in
      cond_both (z == 0) _ _ (λ (res : Result). Follows b a stage (moment (Call.step r) res))
      (λ w. follows_slot f a (Call.step r) Answer.end r at_rest (at_head f a (b.who.awaited r)))
      (λ w. cond_both (is_wanted (b.slots r).walk (q.key z)) _ _ (λ (res : Result). Follows b a stage (moment (Call.step r) res))
      (λ v. follows_slot f a (Call.step r) (Answer.found z (q.stamp z) (q.key z)) r (record { walk = Walk.none; place = z }) g)
      (λ v. follows_slot f a (Call.step r) (Answer.seen z (q.stamp z) (q.key z)) r (record { walk = (b.slots r).walk; place = z }) g))

  -- ---- every call

  follows_accepted : (c : Call) → Passed (checks making b a c) → Follows b a stage (moment c (accepted making b a c))
  follows_accepted (Call.enter r) passed = reader_enters f a making r (grind arith) passed.1.0
  follows_accepted (Call.leave r) passed = reader_leaves f a making r (grind arith)
  follows_accepted (Call.step r) passed = steps r passed
  follows_accepted (Call.look r) passed = follows_same f a (Call.look r) _
  follows_accepted (Call.from r k) passed = follows_slot f a (Call.from r k) Answer.done r (record { walk = Walk.for_key k; place = 0 }) (at_head f a (b.who.awaited r))
  follows_accepted (Call.aside r k) passed = follows_same f a (Call.aside r k) _
  follows_accepted (Call.put k h v w x y) passed = puts k h v w x y passed
  follows_accepted (Call.swap k v w x y) passed = swaps k v w x y passed
  follows_accepted (Call.cut k) passed = cuts k passed
  follows_accepted (Call.move k h) passed = moves k h passed
  follows_accepted Call.finish passed = finishes passed
  follows_accepted Call.tend passed = tend_follows f a making

  pub follows : (c : Call) → Follows b a stage (moment c (result making b a c))
  follows c = checked_both (checks making b a c) (accepted making b a c) (λ number field. unchanged b a (Answer.refused number field)) (λ (res : Result). Follows b a stage (moment c res))
      (follows_accepted c)
      (λ number field. follows_same f a c (Answer.refused number field))
