-- Which nodes are ahead of a place, by links, where place 0 is before the front; stages and ranks that fall along links.
-- What splicing a node in, skipping one, and the start and the end of a wait do to them. Assumes nothing.
use Rattle.std.specs.Prelude.{◌==◌, if◌then◌else◌}
use Rattle.std.proofs.Common.{◌≡◌, ℕ, suc, ◌+◌, ◌*◌, ◌<◌, ◌≤◌, ◌≢◌, ◌⊎◌, sym, ap, ◌∙◌, inl, inr, arith}
use Rattle.std.proofs.lemmas.Bool.{cases_eq}
use Rattle.scheme.specs.Meaning.{updated}

-- z is reached from the place x by one link or more
pub data Ahead (lk : ℕ → ℕ) (z : ℕ) : ℕ → Type 0 where
  next : {x : ℕ} → lk x ≢ 0 → lk x ≡ z → Ahead lk z x
  more : {x : ℕ} → lk x ≢ 0 → Ahead lk z (lk x) → Ahead lk z x

pub next_at : {lk : ℕ → ℕ} {z x : ℕ} → z ≢ 0 → lk x ≡ z → Ahead lk z x
next_at n e = next (λ q. n (cc)) e

pub more_at : {lk : ℕ → ℕ} {z x y : ℕ} → y ≢ 0 → lk x ≡ y → Ahead lk z y → Ahead lk z x
more_at {lk} {z} n e a = more (λ q. n (cc)) (rw e a)

pub ahead_ne : {lk : ℕ → ℕ} {z x : ℕ} → Ahead lk z x → z ≢ 0
ahead_ne (next n e) q = n (e ∙ q)
ahead_ne (more n a) q = ahead_ne a q

pub ahead_link : {lk : ℕ → ℕ} {z x : ℕ} → Ahead lk z x → lk x ≢ 0
ahead_link (next n e) = n
ahead_link (more n a) = n

pub ahead_from : {lk : ℕ → ℕ} {z x y : ℕ} → x ≡ y → Ahead lk z x → Ahead lk z y
ahead_from {lk} {z} e a = rw e at a

pub ahead_to : {lk : ℕ → ℕ} {z w x : ℕ} → z ≡ w → Ahead lk z x → Ahead lk w x
ahead_to e (next n q) = next n (q ∙ e)
ahead_to e (more n a) = more n (ahead_to e a)

pub ahead_trans : {lk : ℕ → ℕ} {z y x : ℕ} → Ahead lk y x → Ahead lk z y → Ahead lk z x
ahead_trans (next n e) b = more n (ahead_from (sym e) b)
ahead_trans (more n a) b = more n (ahead_trans a b)

-- the same links, the same nodes ahead
pub ahead_same : {lk lk' : ℕ → ℕ} {z x : ℕ} → ((y : ℕ) → lk' y ≡ lk y) → Ahead lk z x → Ahead lk' z x
ahead_same {x} s (next n e) = next (λ q. n (grind arith)) (s x ∙ e)
ahead_same {x} s (more n a) = more_at n (s x) (ahead_same s a)

-- stage 0 is listed (and place 0), 1 due, 2 covered, 3 free; rank falls along links
pub record Ordered (lk stage rank : ℕ → ℕ) : Type 0 where
  pub head : stage 0 ≡ 0
  pub falls : (x : ℕ) → stage x < 3 → lk x ≢ 0 → rank (lk x) < rank x
  pub down : (x : ℕ) → stage x < 3 → stage (lk x) ≤ stage x
  pub single : (x y : ℕ) → stage x ≡ 0 → stage y ≡ 0 → lk x ≡ lk y → lk x ≢ 0 → x ≡ y

module _ {lk stage rank : ℕ → ℕ} (o : Ordered lk stage rank) where
  pub ahead_stage : {z x : ℕ} → stage x < 3 → Ahead lk z x → stage z ≤ stage x
  ahead_stage {z} {x} l (next n e) = grind arith
  ahead_stage {z} {x} l (more n a) =
      omega (arith, ahead_stage (omega arith) a)

  pub ahead_rank : {z x : ℕ} → stage x < 3 → Ahead lk z x → rank z < rank x
  ahead_rank {z} {x} l (next n e) = grind arith
  ahead_rank {z} {x} l (more n a) =
      omega (arith, ahead_rank (omega arith) a)

  pub not_ahead_of_itself : {x : ℕ} → stage x < 3 → Ahead lk x x → ⊥
  not_ahead_of_itself l a = omega (arith, ahead_rank l a)

-- y is put behind p
pub record Spliced (lk lk' : ℕ → ℕ) (p y : ℕ) : Type 0 where
  pub at_p : lk' p ≡ y
  pub at_y : lk' y ≡ lk p
  pub rest : (x : ℕ) → x ≢ p → x ≢ y → lk' x ≡ lk x

-- the node behind p is skipped
pub record Skipped (lk lk' : ℕ → ℕ) (p : ℕ) : Type 0 where
  pub at_p : lk' p ≡ lk (lk p)
  pub rest : (x : ℕ) → x ≢ p → lk' x ≡ lk x

-- y is free, so it is no place, and no node in use
pub record Free (stage : ℕ → ℕ) (y : ℕ) : Type 0 where
  pub is_free : stage y ≡ 3
  pub ne : y ≢ 0
  pub live_ne : (x : ℕ) → stage x < 3 → x ≢ y

pub free_at : {lk stage rank : ℕ → ℕ} → Ordered lk stage rank → {y : ℕ} → stage y ≡ 3 → Free stage y
free_at {stage = stage} o k = record {
  is_free = k;
  ne = λ e. omega (arith, ap stage e, o.head);
  live_ne = λ x l e. omega (arith, ap stage e);
}

module _ {lk lk' stage rank : ℕ → ℕ} (o : Ordered lk stage rank) (p y : ℕ) (s : Spliced lk lk' p y) (kp : stage p ≡ 0) (g : Free stage y) where
  pub splice_fwd : {z x : ℕ} → stage x < 3 → Ahead lk z x → Ahead lk' z x
  splice_fwd {z} {x} l (next n e) = elim (cases_eq x p) [
    | inl q ↦ more_at g.ne (cc) (next_at (λ w. n (e ∙ w)) (cc))
    | inr q ↦ next_at (λ w. n (e ∙ w)) (grind arith)
  ]
  splice_fwd {z} {x} l (more n a) =
      let b = splice_fwd (omega arith) a in
      let by_y : lk' x ≡ y → lk' y ≡ lk x → Ahead lk' z x = λ v w. more_at g.ne v (more_at n w b) in
      let from_x : lk' x ≡ lk x → Ahead lk' z x = λ v. more_at n v b in
      grind (arith, by_y, from_x, g.live_ne x)

  splice_back_both : {z x : ℕ} → Ahead lk' z x → (x ≡ y → (z ≡ y) ⊎ Ahead lk z p) × (stage x < 3 → (z ≡ y) ⊎ Ahead lk z x)
  splice_back_both {z} {x} (next n e) =
      let from : (u : ℕ) → lk u ≡ z → Ahead lk z u = λ u. next_at (λ w. n (e ∙ w)) in
      (λ q. grind (arith, from p), λ l. grind (arith, from x, g.live_ne x))
  splice_back_both {z} {x} (more n a) =
      let b = splice_back_both a in
      let from_p : lk p ≡ lk' x → Ahead lk z (lk' x) → Ahead lk z p = more_at n in
      let from_x : lk x ≡ lk' x → Ahead lk z (lk' x) → Ahead lk z x = more_at n in
      (λ q. grind (arith, from_p), λ l. grind (arith, from_x, g.live_ne x))

  pub splice_back : {z x : ℕ} → stage x < 3 → Ahead lk' z x → (z ≡ y) ⊎ Ahead lk z x
  splice_back l a = (splice_back_both a).1 l

  -- the stages and ranks with y listed
  pub splice_ordered : Ordered lk' (updated stage y 0) (updated (λ x. 2 * rank x + 2) y (2 * rank p + 1))
  splice_ordered = record {
    head = grind arith;
    falls = λ x l n. grind arith;
    down = λ x l. grind arith;
    single = λ a b ka kb e n. grind arith;
  }

module _ {lk lk' stage rank : ℕ → ℕ} (o : Ordered lk stage rank) (p : ℕ) (s : Skipped lk lk' p) (kp : stage p ≡ 0) (ne : lk p ≢ 0) where
  pub skip_back : {z u : ℕ} → Ahead lk' z u → Ahead lk z u
  skip_back {z} {u} (next n e) = elim (cases_eq u p) [
    | inl q ↦ more_at ne (ap lk q) (next_at (λ w. n (e ∙ w)) (cc))
    | inr q ↦ next_at (λ w. n (e ∙ w)) (grind arith)
  ]
  skip_back {z} {u} (more n a) =
      let b = skip_back a in
      elim (cases_eq u p) [
        | inl q ↦ more_at ne (ap lk q) (more_at n (cc) b)
        | inr q ↦ more_at n (sym (s.rest u q)) b
      ]

  skip_fwd_both : {z u : ℕ} → z ≢ lk p → Ahead lk z u → Ahead lk' z u × (u ≡ lk p → Ahead lk' z p)
  skip_fwd_both {z} {u} nz (next n e) =
      let from : (x : ℕ) → lk' x ≡ z → Ahead lk' z x = λ x. next_at (λ w. n (e ∙ w)) in
      (grind (arith, from u), λ q. from p (cc))
  skip_fwd_both {z} {u} nz (more n a) =
      let b = skip_fwd_both nz a in
      let from_u : lk' u ≡ lk u → Ahead lk' z u = λ e. more_at n e b.0 in
      (grind (arith, from_u), λ q. more_at n (cc) b.0)

  pub skip_fwd : {z u : ℕ} → z ≢ lk p → Ahead lk z u → Ahead lk' z u
  skip_fwd nz a = (skip_fwd_both nz a).0

  -- where the skipped node was ahead, p is now, or the skipped one still
  pub skip_lost : {u : ℕ} → Ahead lk (lk p) u → (u ≡ p) ⊎ (Ahead lk p u ⊎ Ahead lk' (lk p) u)
  skip_lost {u} (next n e) =
      let still : lk' u ≡ lk p → Ahead lk' (lk p) u = next_at ne in
      grind (arith, still)
  skip_lost {u} (more n a) =
      let b = skip_lost a in
      let near : lk u ≡ p → Ahead lk p u = next n in
      let far : Ahead lk p (lk u) → Ahead lk p u = more n in
      let still : lk' u ≡ lk u → Ahead lk' (lk p) (lk u) → Ahead lk' (lk p) u = more_at n in
      grind (arith, near, far, still)

  -- the stages with the skipped node due
  pub skip_ordered : Ordered lk' (updated stage (lk p) 1) rank
  skip_ordered = record {
    head = grind arith;
    falls = λ u l n. grind arith;
    down = λ u l. grind arith;
    single = λ a b ka kb e n. grind arith;
  }

-- ---- a wait begins, or is found over: stage a becomes the next one

abbrev pub raised : ℕ → ℕ → ℕ
raised a k = if k == a then suc a else k
