-- Walks under way along a history, with the number of their steps.
-- At the last step of a walk it is short, complete and honest. Assumes nothing.
use Rattle.std.proofs.Common.{◌≡◌, ℕ, suc, ◌+◌, ◌≤◌, true, List, [], ◌∷◌, length, refl, subst, inl, inr, arith}
use Rattle.scheme.specs.Histories.{Any}
use Rattle.plain.specs.Pools.{link_of}
use Rattle.plain.specs.Boards.{Board, Area}
use Rattle.plain.specs.History.{Moment, History, Every, Count}
use Rattle.plain.specs.Sightings.{Leaves, Sighting, StepsOn, Sights}
use Rattle.plain.specs.Walks.{Starts, ReachesEnd, Steps, StepsOnKey, Listed}
use Rattle.plain.proofs.Links.{ahead_link, next_at}
use Rattle.plain.proofs.Lists.{few}
use Rattle.plain.proofs.Follows.{Fine, Follows}
use Rattle.plain.proofs.Told.{Told}
use Rattle.plain.proofs.Way.{Way, key_of, way_starts, way_goes, way_stays}

-- ---- how many

module _ {P : Moment → Type 0} where
  count_older : {m : Moment} {w : History} {n : ℕ} → Count P (m ∷ w) n → (k : ℕ) × Count P w k × (n ≤ suc k)
  count_older (Count.one_more {n = k} p c) = grind arith
  count_older (Count.no_more {n = k} p c) = grind arith

  count_same : {m : Moment} {w : History} {n : ℕ} → ¬ (P m) → Count P (m ∷ w) n → Count P w n
  count_same np (Count.one_more p c) = absurd (np p)
  count_same np (Count.no_more p c) = c

  count_none : {n : ℕ} → Count P [] n → n ≤ 0
  count_none Count.none = omega arith

-- ---- a walk of r under way, on the board b

pub record UnderWay (b : Board) (stage : ℕ → ℕ) (r : ℕ) (w : History) : Type 0 where
  pub inside : b.who.inside r ≡ true
  pub trodden : List ℕ
  pub way : Way b stage r w (b.slots r).place trodden
  pub count : (n : ℕ) → Count (Steps r) w n → n ≤ length trodden

pub trodden_few : {b : Board} {stage rank : ℕ → ℕ} {r : ℕ} {w : History} → Fine b stage rank → (u : UnderWay b stage r w) → length u.trodden ≤ b.size
trodden_few f u = few _ u.way.apart (λ x i.
    let l = u.way.live x i in
    (omega arith, f.shaped.books.bounded x l.1.live))

module _ {b : Board} {a : Area} {stage rank : ℕ → ℕ} {m : Moment} (f : Fine b stage rank) (t : Told b a m) (n : Follows b a stage m) (r : ℕ) where
  starts_steps : Starts r m → ¬ (Steps r m)
  starts_steps s e = cc

  pub under_way_starts : Starts r m → UnderWay m.board n.stage' r (m ∷ [])
  under_way_starts s =
      let g = t.begins r s in
      record {
        inside = grind arith;
        trodden = [];
        way = rw g.1 (way_starts n.fine r m refl);
        count = λ k c. count_none (count_same (starts_steps s) c);
      }

  pub under_way_goes_on : {w : History} → ¬ (Starts r m) → ¬ (Leaves r m) → ¬ (ReachesEnd r m) → UnderWay b stage r w → UnderWay m.board n.stage' r (m ∷ w)
  under_way_goes_on {w} ns nl ne u = elim (t.steps r) [
    | inr no_step ↦ record {
      inside = grind arith;
      trodden = u.trodden;
      way = rw (t.keeps r u.inside ns nl ne no_step.0) stayed;
      count = λ k c. u.count k (count_same (λ s. ne (no_step.1 s)) c);
    }
    | inl on ↦ trod on.0 on.1
  ]
    where
      stayed : Way m.board n.stage' r (m ∷ w) (b.slots r).place u.trodden
      stayed = way_stays f n r u.inside nl w (b.slots r).place u.trodden (f.rests r u.inside) u.way

      trod : (x : Sighting) → StepsOn r m x → UnderWay m.board n.stage' r (m ∷ w)
      trod x on =
          let o = t.beholds r x (Sights.by_step on) in
          let d = t.treads r x on in
          let e : link_of m.board.pool (b.slots r).place ≡ x.node = cc in
          let k : x.key ≡ key_of m.board x.node = cc in
          record {
            inside = n.stays r u.inside nl;
            trodden = x.node ∷ u.trodden;
            way = rw d.1 (way_goes n.fine r m w (b.slots r).place x.node u.trodden e o.0.ne ((n.turned r u.inside nl).guards (b.slots r).place (f.rests r u.inside)) (record { sighting = x; on = on; key = k }) stayed);
            count = λ j c.
                let s = count_older c in
                grind arith;
          }

  -- ---- the last step of a walk

  pub complete_at : (k : ℕ) {w : History} → UnderWay b stage r w → ReachesEnd r m → Every (Listed k) w → Any (StepsOnKey r k) (m ∷ w)
  complete_at k u e ev = elim (u.way.complete k ev) [
    | inl s ↦ Any.there s
    | inr c ↦ absurd (ahead_link c.1 (t.ends r e))
  ]

  pub honest_at : (k : ℕ) {w : History} → UnderWay b stage r w → StepsOnKey r k m → Any (Listed k) (m ∷ w)
  honest_at k {w} u s =
      let o = (t.beholds r s.sighting (Sights.by_step s.on)).0 in
      let d = t.treads r s.sighting s.on in
      Any.there (subst (λ (j : ℕ). Any (Listed j) w) (cc) (u.way.honest s.sighting.node (next_at o.ne d.0)))

  pub short_at : (j : ℕ) {w : History} → UnderWay b stage r w → Count (Steps r) (m ∷ w) j → j ≤ b.size + 1
  short_at j u c =
      let s = count_older c in
      omega (arith, u.count s.0 s.1, trodden_few f u)
