-- A walk at a place: what it stepped on, and that each key it owes is stepped on or still ahead.
-- This holds at the start of a walk, at each step of it, and through every other call. Assumes nothing.
use Rattle.std.proofs.Common.{◌≡◌, ℕ, ◌<◌, Bool, true, ◌≢◌, ◌⊎◌, List, [], ◌∷◌, refl, ◌∙◌, subst, inl, inr, arith}
use Rattle.scheme.specs.Histories.{Any}
use Rattle.plain.specs.Pools.{link_of}
use Rattle.plain.specs.Boards.{Board, Area, is_listed}
use Rattle.plain.specs.History.{Moment, History, Every}
use Rattle.plain.specs.Sightings.{Leaves}
use Rattle.plain.specs.Walks.{StepsOnKey, Listed}
use Rattle.plain.proofs.Links.{Ahead, ahead_ne, ahead_stage, not_ahead_of_itself, more_at, next_at}
use Rattle.plain.proofs.Lists.{In, in_cases, Apart}
use Rattle.plain.proofs.Shape.{Guarded, Carried, Turned, Owed, owed_two, node_there, there, listed_stage}
use Rattle.plain.proofs.Follows.{Fine, Follows}
use Rattle.plain.proofs.Sightings.{guarded_ahead}

abbrev pub key_of : Board → ℕ → ℕ
key_of b x = b.pool.key x

-- the walk of r with the moments w stands at p, and trod on v
pub record Way (b : Board) (stage : ℕ → ℕ) (r : ℕ) (w : History) (p : ℕ) (v : List ℕ) : Type 0 where
  pub apart : Apart v
  pub live : (x : ℕ) → In x v → (x ≢ 0) × Guarded stage (b.who.awaited r) x
  pub clear : (x : ℕ) → In x v → Ahead (link_of b.pool) x p → ⊥
  pub honest : (z : ℕ) → Ahead (link_of b.pool) z p → Any (Listed (key_of b z)) w
  pub complete : (k : ℕ) → Every (Listed k) w → Any (StepsOnKey r k) w ⊎ ((z : ℕ) × Ahead (link_of b.pool) z p × (key_of b z ≡ k))
  pub copies : (c : ℕ) → Owed b.pool.move (b.who.awaited r) c → Any (StepsOnKey r (key_of b c)) w ⊎ Ahead (link_of b.pool) c p

module _ {b : Board} {stage rank : ℕ → ℕ} (f : Fine b stage rank) where
  pub listed_at : (k : ℕ) → is_listed b k ≡ true → (z : ℕ) × Ahead (link_of b.pool) z 0 × (key_of b z ≡ k)
  listed_at k t = let n = node_there f.shaped k t in (_, n.0, n.1)

  pub is_there : (z : ℕ) → Ahead (link_of b.pool) z 0 → is_listed b (key_of b z) ≡ true
  is_there z a = there f.shaped (key_of b z) z a refl

  owed_listed : (aw : Bool) (c : ℕ) → Owed b.pool.move aw c → Ahead (link_of b.pool) c 0
  owed_listed aw c w = (owed_two b.pool b.pool.move aw c f.shaped.moved w).1.copy

  -- a walk starts
  pub way_starts : (r : ℕ) (m : Moment) → m.board ≡ b → Way b stage r (m ∷ []) 0 []
  way_starts r m e = record {
    apart = Apart.nothing;
    live = λ x i. elim i [ ];
    clear = λ x i. elim i [ ];
    honest = λ z a. Any.here (rw e (is_there z a));
    complete = λ k ev. inr (listed_at k (rw e at ev.0));
    copies = λ c w. grind arith;
  }

  -- a walk goes on to the next node
  pub way_goes : (r : ℕ) (m : Moment) (w : History) (p z : ℕ) (v : List ℕ) → link_of b.pool p ≡ z → z ≢ 0 → Guarded stage (b.who.awaited r) p → StepsOnKey r (key_of b z) m →
      Way b stage r (m ∷ w) p v → Way b stage r (m ∷ w) z (z ∷ v)
  way_goes r m w p z v e n g on y = record {
    apart = Apart.one_more (λ i. y.clear z i (next_at n e)) y.apart;
    live = λ x i. let c = in_cases i in grind (arith, gz, y.live x);
    clear = λ x i a. let c = in_cases i in grind (arith, not_ahead_of_itself f.shaped.ordered gz.live, y.clear x, more_at n e a);
    honest = λ x a. y.honest x (more_at n e a);
    complete = λ k ev. elim (y.complete k ev) [
      | inl s ↦ inl s
      | inr c ↦ elim (split c.0 c.1) [
        | inl q ↦ inl (Any.here (subst (λ (l : ℕ). StepsOnKey r l m) (cc) on))
        | inr a ↦ inr (c.0, a, c.2)
      ]
    ];
    copies = λ c o.
        let t = y.copies c o in
        let here : Any (StepsOnKey r (key_of b z)) (m ∷ w) = Any.here on in
        grind (arith, split c, here);
  }
    where
      gz : Guarded stage (b.who.awaited r) z
      gz = guarded_ahead f.shaped g (next_at n e)

      -- what is ahead of p is z, or ahead of z
      split : (x : ℕ) → Ahead (link_of b.pool) x p → (z ≡ x) ⊎ Ahead (link_of b.pool) x z
      split x (Ahead.next d q) = inl (cc)
      split x (Ahead.more d a) = grind arith

module _ {b : Board} {a : Area} {stage rank : ℕ → ℕ} {m : Moment} (f : Fine b stage rank) (n : Follows b a stage m) (r : ℕ) (i : b.who.inside r ≡ true) (nl : ¬ (Leaves r m)) where
  u : Turned b.pool m.board.pool a m.area stage n.stage' (b.who.awaited r) (m.board.who.awaited r)
  u = n.turned r i nl

  key_kept : (x : ℕ) → x ≢ 0 → stage x < 3 → key_of m.board x ≡ key_of b x
  key_kept x d l = grind arith

  -- a call is made while the walk stands at p
  pub way_stays : (w : History) (p : ℕ) (v : List ℕ) → Guarded stage (b.who.awaited r) p → Way b stage r w p v → Way m.board n.stage' r (m ∷ w) p v
  way_stays w p v g y = record {
    apart = y.apart;
    live = λ x j. grind arith;
    clear = λ x j c. let d = u.back p x g.live c in grind (arith, y.clear x, y.live x);
    honest = λ z c. elim (u.back p z g.live c) [
      | inl d ↦ Any.there (rw (ahead_key z d) (y.honest z d))
      | inr d ↦ Any.here (is_there n.fine z d.1)
    ];
    complete = λ k ev. elim (y.complete k ev.1) [
      | inl s ↦ inl (Any.there s)
      | inr c ↦ carry k c.0 c.1 c.2 ev.0 (u.fwd p c.0 g.live c.1)
    ];
    copies = λ c o.
        let t = u.owed c o in
        let k = owed_key (b.who.awaited r) c t.0 in
        elim (y.copies c t.0) [
          | inl s ↦ inl (Any.there (rw k s))
          | inr d ↦ inr (t.1 p d)
        ];
  }
    where
      ahead_key : (z : ℕ) → Ahead (link_of b.pool) z p → key_of m.board z ≡ key_of b z
      ahead_key z d =
          let l = g.live in
          let k = ahead_stage f.shaped.ordered l d in
          key_kept z (ahead_ne d) (omega arith)

      owed_key : (aw : Bool) (c : ℕ) → Owed b.pool.move aw c → key_of m.board c ≡ key_of b c
      owed_key aw c o =
          let d = owed_listed f aw c o in
          let k = listed_stage f.shaped d in
          key_kept c (ahead_ne d) (omega arith)

      carry : (k z : ℕ) → Ahead (link_of b.pool) z p → key_of b z ≡ k → Listed k m → Carried b.pool m.board.pool p z →
          Any (StepsOnKey r k) (m ∷ w) ⊎ ((x : ℕ) × Ahead (link_of m.board.pool) x p × (key_of m.board x ≡ k))
      carry k z d e l (Carried.stays c) = inr (z, c, ahead_key z d ∙ e)
      carry k z d e l (Carried.replaced x c q) = inr (x, c, q ∙ e)
      carry k z d e l (Carried.gone lost) = let h = listed_at n.fine k l in absurd (lost h.0 h.1 (cc))
      carry k z d e l (Carried.copied c o q fw) = elim (y.copies c (o (b.who.awaited r))) [
        | inl s ↦ inl (Any.there (rw (q ∙ e) at s))
        | inr h ↦ inr (c, fw h, owed_key (b.who.awaited r) c (o (b.who.awaited r)) ∙ q ∙ e)
      ]
