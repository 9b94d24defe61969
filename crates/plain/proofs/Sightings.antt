-- What a reader sighted in its visit still stands on the board, with its stamp, key and record.
-- So the sightings of a visit agree. Assumes nothing.
use Rattle.std.proofs.Common.{◌≡◌, ℕ, Bool, true, ◌≢◌, ◌∷◌, inl, inr, arith}
use Rattle.scheme.specs.Histories.{Since}
use Rattle.plain.specs.Pools.{Pool, link_of}
use Rattle.plain.specs.Boards.{Board, Area, record_at}
use Rattle.plain.specs.History.{Moment, History}
use Rattle.plain.specs.Sightings.{Leaves, Sighting, Sights, Sighted, SightingsAgree}
use Rattle.plain.proofs.Links.{Ahead, ahead_stage}
use Rattle.plain.proofs.Shape.{Shaped, Guarded}
use Rattle.plain.proofs.Follows.{Fine, Follows}
use Rattle.plain.proofs.Told.{Told, Beholds, steps_call}

pub record Stands (b : Board) (a : Area) (stage : ℕ → ℕ) (r : ℕ) (x : Sighting) : Type 0 where
  pub inside : b.who.inside r ≡ true
  pub ne : x.node ≢ 0
  pub guarded : Guarded stage (b.who.awaited r) x.node
  pub stamp : b.pool.stamp x.node ≡ x.stamp
  pub key : b.pool.key x.node ≡ x.key
  pub fields : record_at a x.node ≡ x.fields

-- what is ahead of a guarded place is guarded
pub guarded_ahead : {size : ℕ} {q : Pool} {stage rank : ℕ → ℕ} → Shaped size q stage rank → {aw : Bool} {x z : ℕ} → Guarded stage aw x → Ahead (link_of q) z x → Guarded stage aw z
guarded_ahead s g a =
    let l = g.live in
    let k = ahead_stage s.ordered l a in
    record { live = omega arith; waits = λ w. g.waits (omega arith) }

module _ {b : Board} {a : Area} {stage rank : ℕ → ℕ} {m : Moment} (f : Fine b stage rank) (t : Told b a m) (n : Follows b a stage m) where
  stands_on : (r : ℕ) (x : Sighting) → ¬ (Leaves r m) → Stands b a stage r x → Stands m.board m.area n.stage' r x
  stands_on r x nl s =
      let u = n.turned r s.inside nl in
      let k = u.kept x.node s.ne s.guarded.live in
      record {
        inside = n.stays r s.inside nl;
        ne = s.ne;
        guarded = grind arith;
        stamp = cc;
        key = cc;
        fields = cc;
      }

  stands_newly : (r : ℕ) (x : Sighting) → Beholds b a r x → Stands b a stage r x
  stands_newly r x o = record {
    inside = o.inside;
    ne = o.ne;
    stamp = o.stamp;
    key = o.key;
    fields = o.fields;
    guarded = elim o.where' [
      | inl c ↦ guarded_ahead f.shaped (f.rests r o.inside) c
      | inr c ↦ guarded_ahead f.shaped (record { live = omega arith; waits = λ w. absurd (omega arith) }) c
    ];
  }

  -- who leaves, sights nothing by it
  sights_stays : {r : ℕ} {x : Sighting} → Sights r x m → ¬ (Leaves r m)
  sights_stays (Sights.by_step t) l = cc (steps_call t)
  sights_stays (Sights.by_aside w n s k v e q y) l = cc

  pub still_stands : {h : History} (r : ℕ) (x : Sighting) → (Sighted r x h → Stands b a stage r x) → Sighted r x (m ∷ h) → Stands m.board m.area n.stage' r x
  still_stands r x g (Since.starts s) = stands_on r x (sights_stays s) (stands_newly r x (t.beholds r x s).0)
  still_stands r x g (Since.goes_on nl s) = stands_on r x nl (g s)

pub agree : {b : Board} {a : Area} {stage rank : ℕ → ℕ} {h : History} → Fine b stage rank → ((r : ℕ) (x : Sighting) → Sighted r x h → Stands b a stage r x) → SightingsAgree h
agree {b} {a} f g r x y sx sy =
    let p = g r x sx in
    let q = g r y sy in
    record {
      same_node = (
        (λ e. cc),
        (λ e. f.shaped.books.stamps_apart x.node y.node p.ne q.ne p.guarded.live q.guarded.live (cc)),
      );
      same_key = λ e. cc;
      same_record = λ e. cc;
    }
