-- What an answer tells of the reader that called: sightings, the end of a walk, its start; and whose place stays at a call.
-- This is shown once for every call (told). Assumes nothing.
use Rattle.std.specs.Prelude.{◌==◌}
use Rattle.std.proofs.Common.{◌≡◌, ℕ, Bool, true, false, ◌≢◌, ◌⊎◌, sym, refl, ap, subst, inl, inr, arith}
use Rattle.std.proofs.lemmas.Bool.{cases_eq, eqb-true, eqb-false, cond_both}
use Rattle.record.specs.Making.{Making}
use Rattle.plain.specs.Pools.{link_of}
use Rattle.plain.specs.Boards.{Board, Area, Slot, Walk, at_rest, with_slot, is_wanted, node_of, record_at}
use Rattle.plain.specs.Calls.{Call, Answer}
use Rattle.plain.specs.Refusals.{checks}
use Rattle.plain.specs.Plain.{Result, accepted, result, unchanged}
use Rattle.plain.specs.History.{Moment, moment}
use Rattle.plain.specs.Sightings.{Leaves, Sighting, sighting, StepsOn, Sights}
use Rattle.plain.specs.Walks.{Starts, ReachesEnd, Steps}
use Rattle.plain.proofs.Links.{Ahead, next_at}
use Rattle.plain.proofs.Shape.{node_there}
use Rattle.plain.proofs.Checks.{Passed, checked_both}
use Rattle.plain.proofs.Follows.{Fine}

-- reader r has x before it on the board b
pub record Beholds (b : Board) (a : Area) (r : ℕ) (x : Sighting) : Type 0 where
  pub inside : b.who.inside r ≡ true
  pub ne : x.node ≢ 0
  pub stamp : b.pool.stamp x.node ≡ x.stamp
  pub key : b.pool.key x.node ≡ x.key
  pub fields : record_at a x.node ≡ x.fields
  pub where' : Ahead (link_of b.pool) x.node (b.slots r).place ⊎ Ahead (link_of b.pool) x.node 0

-- of a moment m that found the board b and the area a
pub record Told (b : Board) (a : Area) (m : Moment) : Type 0 where
  -- who sights something has it before it, and the pool stays
  pub beholds : (r : ℕ) (x : Sighting) → Sights r x m → Beholds b a r x × (m.board.pool ≡ b.pool)
  -- who steps on a node follows one link to it, and stands there
  pub treads : (r : ℕ) (x : Sighting) → StepsOn r m x → (link_of b.pool (b.slots r).place ≡ x.node) × ((m.board.slots r).place ≡ x.node)
  -- who reaches the end found link 0
  pub ends : (r : ℕ) → ReachesEnd r m → link_of b.pool (b.slots r).place ≡ 0
  -- who starts a walk is inside, and stands before the front
  pub begins : (r : ℕ) → Starts r m → (b.who.inside r ≡ true) × ((m.board.slots r).place ≡ 0)
  -- who does none of these, and does not leave, stands where it stood
  pub keeps : (r : ℕ) → b.who.inside r ≡ true → ¬ (Starts r m) → ¬ (Leaves r m) → ¬ (ReachesEnd r m) → ((x : Sighting) → ¬ (StepsOn r m x)) → (m.board.slots r).place ≡ (b.slots r).place
  -- who takes a step reaches the end or steps on a node; who does not, steps on none
  pub steps : (r : ℕ) → ((x : Sighting) × StepsOn r m x) ⊎ (((x : Sighting) → ¬ (StepsOn r m x)) × (Steps r m → ReachesEnd r m))

-- ---- which call a sighting came by

pub steps_call : {r : ℕ} {m : Moment} {x : Sighting} → StepsOn r m x → m.call ≡ Call.step r
steps_call (StepsOn.by_seen n s k e q) = e
steps_call (StepsOn.by_found n s k e q) = e

sights_call : {r : ℕ} {m : Moment} {x : Sighting} → Sights r x m → (m.call ≡ Call.step r) ⊎ ((k : ℕ) × (m.call ≡ Call.aside r k))
sights_call (Sights.by_step t) = inl (steps_call t)
sights_call (Sights.by_aside w n s k v e q x) = inr (w, e)

-- ---- calls by which no reader steps, looks aside or starts a walk

abbrev walks : Call → Bool
walks (Call.step r) = true
walks (Call.from r k) = true
walks (Call.aside r k) = true
walks c = false

told_silent : (b : Board) (a : Area) (m : Moment) → walks m.call ≡ false → ((r : ℕ) → b.who.inside r ≡ true → ¬ (Leaves r m) → (m.board.slots r).place ≡ (b.slots r).place) → Told b a m
told_silent b a m silent same = record {
  beholds = λ r x t. grind arith;
  treads = λ r x t. grind arith;
  ends = λ r t. grind arith;
  begins = λ r t. grind arith;
  keeps = λ r i ns nl ne no_step. same r i nl;
  steps = λ r. grind arith;
}

-- ---- refused calls

told_refused : (b : Board) (a : Area) (c : Call) (n k : ℕ) → Told b a (moment c (unchanged b a (Answer.refused n k)))
told_refused b a c n k = record {
  beholds = λ r x t. grind arith;
  treads = λ r x t. grind arith;
  ends = λ r t. cc;
  begins = λ r t. cc;
  keeps = λ r i ns nl ne no_step. refl;
  steps = λ r. grind arith;
}

module _ {b : Board} {stage rank : ℕ → ℕ} (f : Fine b stage rank) (a : Area) where
  slot_else : (r u : ℕ) (s : Slot) → u ≢ r → ((with_slot r s b).slots u).place ≡ (b.slots u).place
  slot_else r u s n = grind arith

  -- ---- a walk starts

  told_from : (making : Making) (r k : ℕ) → b.who.inside r ≡ true → Told b a (moment (Call.from r k) (accepted making b a (Call.from r k)))
  told_from making r k i = record {
    beholds = λ u x t. elim (sights_call t) [ inl e ↦ cc | inr e ↦ cc ];
    treads = λ u x t. cc (steps_call t);
    ends = λ u t. cc;
    begins = λ u t. let e : r ≡ u = cc in (rw e at i, grind arith);
    keeps = λ u iu ns nl ne no_step. grind arith;
    steps = λ u. inr ((λ x t. cc (steps_call t)), (λ t. cc));
  }

  -- ---- a step

  told_end : (r : ℕ) → link_of b.pool (b.slots r).place ≡ 0 → Told b a (record { call = Call.step r; answer = Answer.end; board = with_slot r at_rest b; area = a })
  told_end r z = record {
    beholds = λ u x t. absurd (not_sighted t);
    treads = λ u x t. grind arith;
    ends = λ u t. grind arith;
    begins = λ u t. cc;
    keeps = λ u iu ns nl ne no_step. grind arith;
    steps = λ u. inr ((λ x t. not_on t), (λ t. (t.asked, refl)));
  }
    where
      not_on : {u : ℕ} {x : Sighting} → StepsOn u (record { call = Call.step r; answer = Answer.end; board = with_slot r at_rest b; area = a }) x → ⊥
      not_on (StepsOn.by_seen n s k e q) = cc
      not_on (StepsOn.by_found n s k e q) = cc

      not_sighted : {u : ℕ} {x : Sighting} → Sights u x (record { call = Call.step r; answer = Answer.end; board = with_slot r at_rest b; area = a }) → ⊥
      not_sighted (Sights.by_step t) = not_on t
      not_sighted (Sights.by_aside w n s k v e q x) = cc

  -- the step goes to the node z; the answer w is seen or found, and tells just this
  module _ (r : ℕ) (i : b.who.inside r ≡ true) (s : Slot) (w : Answer)
      (there : s.place ≡ link_of b.pool (b.slots r).place) (ne : link_of b.pool (b.slots r).place ≢ 0) where
    abbrev m : Moment
    m = record { call = Call.step r; answer = w; board = with_slot r s b; area = a }

    abbrev z : ℕ
    z = link_of b.pool (b.slots r).place

    abbrev x₀ : Sighting
    x₀ = sighting z (b.pool.stamp z) (b.pool.key z) a

    module _ (on : StepsOn r m x₀) (only : (u : ℕ) (x : Sighting) → StepsOn u m x → (r ≡ u) × (x₀ ≡ x)) (not_end : ¬ (w ≡ Answer.end)) where
      beheld : (u : ℕ) (x : Sighting) → StepsOn u m x → Beholds b a u x
      beheld u x t =
          let o = only u x t in
          rw o.0 at (subst (λ (y : Sighting). Beholds b a r y) o.1
          (record { inside = i; ne = ne; stamp = refl; key = refl; fields = refl; where' = inl (next_at ne refl) }))

      by_step : {u : ℕ} {x : Sighting} → Sights u x m → Beholds b a u x
      by_step {u} {x} (Sights.by_step t) = beheld u x t
      by_step (Sights.by_aside k n t l v e q x) = cc

      told_on : Told b a (record { call = Call.step r; answer = w; board = with_slot r s b; area = a })
      told_on = record {
        beholds = λ u x t. (by_step t, refl);
        treads = λ u x t.
            let o = only u x t in
            grind arith;
        ends = λ u t. grind arith;
        begins = λ u t. cc;
        keeps = λ u iu ns nl ne' no_step. grind arith;
        steps = λ u. elim (cases_eq r u) [
          | inl e ↦ inl (x₀, subst (λ (v : ℕ). StepsOn v m x₀) e on)
          | inr n ↦ inr ((λ x t. n (only u x t).0), (λ t. absurd (n (cc))))
        ];
      }

  only_seen : {r n s k : ℕ} {d : Board} (u : ℕ) (x : Sighting) → StepsOn u (record { call = Call.step r; answer = Answer.seen n s k; board = d; area = a }) x → (r ≡ u) × (sighting n s k a ≡ x)
  only_seen u x (StepsOn.by_seen n' s' k' e q) = (cc, cc)
  only_seen u x (StepsOn.by_found n' s' k' e q) = cc

  only_found : {r n s k : ℕ} {d : Board} (u : ℕ) (x : Sighting) → StepsOn u (record { call = Call.step r; answer = Answer.found n s k; board = d; area = a }) x → (r ≡ u) × (sighting n s k a ≡ x)
  only_found u x (StepsOn.by_seen n' s' k' e q) = cc
  only_found u x (StepsOn.by_found n' s' k' e q) = (cc, cc)

  told_step : (making : Making) (r : ℕ) → Passed (checks making b a (Call.step r)) → Told b a (moment (Call.step r) (accepted making b a (Call.step r)))
  told_step making r passed =
      let i : b.who.inside r ≡ true = grind arith in
      let z = link_of b.pool (b.slots r).place in
      cond_both (z == 0) _ _ (λ (res : Result). Told b a (moment (Call.step r) res))
      (λ w. told_end r (eqb-true z 0 w))
      (λ w. cond_both (is_wanted (b.slots r).walk (b.pool.key z)) _ _ (λ (res : Result). Told b a (moment (Call.step r) res))
      (λ v. told_on r i (record { walk = Walk.none; place = z }) (Answer.found z (b.pool.stamp z) (b.pool.key z)) refl (eqb-false z 0 w) (StepsOn.by_found _ _ _ refl refl) only_found (λ e. cc))
      (λ v. told_on r i (record { walk = (b.slots r).walk; place = z }) (Answer.seen z (b.pool.stamp z) (b.pool.key z)) refl (eqb-false z 0 w) (StepsOn.by_seen _ _ _ refl refl) only_seen (λ e. cc)))

  -- ---- a look aside

  told_aside : (making : Making) (r k : ℕ) → Passed (checks making b a (Call.aside r k)) → Told b a (moment (Call.aside r k) (accepted making b a (Call.aside r k)))
  told_aside making r k passed =
      let i : b.who.inside r ≡ true = grind arith in
      cond_both (x == 0) Answer.none (Answer.found_aside x (b.pool.stamp x) k (record_at a x))
      (λ (w : Answer). Told b a (moment (Call.aside r k) (unchanged b a w)))
      (λ z. beside Answer.none (λ u y t. absurd (none_sighted t)))
      (λ z. beside (Answer.found_aside x (b.pool.stamp x) k (record_at a x)) (λ u y t. found_there i (eqb-false x 0 z) t))
    where
      x : ℕ
      x = node_of b k

      beside : (w : Answer) → ((u : ℕ) (y : Sighting) → Sights u y (moment (Call.aside r k) (unchanged b a w)) → Beholds b a u y) → Told b a (moment (Call.aside r k) (unchanged b a w))
      beside w sighted = record {
        beholds = λ u y t. (sighted u y t, refl);
        treads = λ u y t. cc (steps_call t);
        ends = λ u t. cc;
        begins = λ u t. cc;
        keeps = λ u iu ns nl ne no_step. refl;
        steps = λ u. inr ((λ y t. cc (steps_call t)), (λ t. cc));
      }

      none_sighted : {u : ℕ} {y : Sighting} → Sights u y (moment (Call.aside r k) (unchanged b a Answer.none)) → ⊥
      none_sighted (Sights.by_step t) = cc (steps_call t)
      none_sighted (Sights.by_aside w n s l v e q y) = cc

      found_there : {u : ℕ} {y : Sighting} → b.who.inside r ≡ true → x ≢ 0 → Sights u y (moment (Call.aside r k) (unchanged b a (Answer.found_aside x (b.pool.stamp x) k (record_at a x)))) → Beholds b a u y
      found_there i n (Sights.by_step t) = cc (steps_call t)
      found_there {u} {y} i n (Sights.by_aside w n' s l v e q is) =
          let there = node_there f.shaped k (grind arith) in
          let by : r ≡ u = cc in
          let same : sighting x (b.pool.stamp x) k a ≡ y = cc in
          rw by at (subst (λ (o : Sighting). Beholds b a r o) same
          (record { inside = i; ne = n; stamp = refl; key = there.1; fields = refl; where' = inr there.0 }))

  -- ---- every call

  told_tend : (making : Making) → Told b a (moment Call.tend (accepted making b a Call.tend))
  told_tend making = told_silent b a (moment Call.tend (accepted making b a Call.tend)) refl (λ r i n. ap (λ (slots : ℕ → Slot). (slots r).place) slots_same)
    where
      slots_same : (accepted making b a Call.tend).board.slots ≡ b.slots
      slots_same = grind arith

  told_accepted : (making : Making) (c : Call) → Passed (checks making b a c) → Told b a (moment c (accepted making b a c))
  told_accepted making (Call.enter u) passed = told_silent b a (moment (Call.enter u) (accepted making b a (Call.enter u))) refl
      (λ r i n. slot_else u r at_rest (λ e. cc))
  told_accepted making (Call.leave u) passed = told_silent b a (moment (Call.leave u) (accepted making b a (Call.leave u))) refl
      (λ r i n. slot_else u r at_rest (λ e. n (ap Call.leave (sym e), refl)))
  told_accepted making (Call.step u) passed = told_step making u passed
  told_accepted making (Call.from u k) passed = told_from making u k (grind arith)
  told_accepted making (Call.aside u k) passed = told_aside making u k passed
  told_accepted making Call.tend passed = told_tend making
  told_accepted making c passed = told_silent b a (moment c (accepted making b a c)) refl (λ r i n. refl)

  pub told : (making : Making) (c : Call) → Told b a (moment c (result making b a c))
  told making c = checked_both (checks making b a c) (accepted making b a c) (λ number field. unchanged b a (Answer.refused number field)) (λ (res : Result). Told b a (moment c res))
      (told_accepted making c)
      (told_refused b a c)
