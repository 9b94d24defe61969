-- The chain of nodes ahead of a place, as a list: the node before another, who precedes whom, the first with a key.
-- The board's own chain, which is followed no further than its size, is the whole chain. Assumes nothing.
use Rattle.std.specs.Prelude.{◌==◌}
use Rattle.std.proofs.Common.{◌≡◌, ℕ, zero, suc, ◌<◌, ◌≤◌, false, ◌≢◌, ◌⊎◌, List, [], ◌∷◌, length, sym, refl, ap, inl, inr, arith}
use Rattle.std.proofs.lemmas.Bool.{eqb-true, eqb-false, cond_both}
use Rattle.plain.specs.Pools.{reached, holder, before, precedes}
use Rattle.plain.proofs.Links.{Ahead, ahead_ne, next_at, more_at, ahead_from, Ordered, not_ahead_of_itself, ahead_stage}
use Rattle.plain.proofs.Lists.{In, in_cases, Apart, few}

-- the nodes ahead of p are these
pub data Chain (lk : ℕ → ℕ) : ℕ → List ℕ → Type 0 where
  stop : {p : ℕ} → lk p ≡ 0 → Chain lk p []
  link : {p y : ℕ} {ys : List ℕ} → lk p ≡ y → y ≢ 0 → Chain lk y ys → Chain lk p (y ∷ ys)

pub chain_ahead : {lk : ℕ → ℕ} {p x : ℕ} {l : List ℕ} → Chain lk p l → In x l → Ahead lk x p
chain_ahead (stop e) m = elim m [ ]
chain_ahead (link e n c) m = elim (in_cases m) [
  | inl q ↦ next_at (λ w. n (cc)) (cc)
  | inr i ↦ more_at n e (chain_ahead c i)
]

pub ahead_chain : {lk : ℕ → ℕ} {p x : ℕ} {l : List ℕ} → Chain lk p l → Ahead lk x p → In x l
ahead_chain (stop e) (Ahead.next n q) = absurd (n e)
ahead_chain (stop e) (Ahead.more n a) = absurd (n e)
ahead_chain (link e n c) (Ahead.next m q) = In.first (cc)
ahead_chain (link e n c) (Ahead.more m a) = In.later (ahead_chain c (ahead_from e a))

-- the node before x has x behind it
pub before_links : {lk : ℕ → ℕ} {p x : ℕ} {l : List ℕ} → Chain lk p l → In x l → (lk (before p x l) ≡ x) × ((before p x l ≡ p) ⊎ In (before p x l) l)
before_links (stop e) m = elim m [ ]
before_links {lk} {p} {x} (link {y = y} {ys = ys} e n c) m =
    let w = in_cases m in
    let here : In y (y ∷ ys) = In.first refl in
    let later : (z : ℕ) → In z ys → In z (y ∷ ys) = λ z i. In.later i in
    grind (arith, before_links {x = x} c, later)

-- of two nodes of the chain, one that does not precede the other is ahead of it
pub precedes_ahead : {lk : ℕ → ℕ} {p : ℕ} (x y : ℕ) {l : List ℕ} → Chain lk p l → In x l → In y l → x ≢ y → precedes x y l ≡ false → Ahead lk x y
precedes_ahead x y (stop e) i j d f = elim i [ ]
precedes_ahead {lk} x y (link {y = z} {ys = zs} e n c) i j d f =
    let v = in_cases i in
    let w = in_cases j in
    grind (arith, chain_ahead {x = x} c, precedes_ahead x y c)

-- ---- the first node with a key

pub holder_holds : (keys : ℕ → ℕ) (k : ℕ) (l : List ℕ) → holder keys k l ≢ 0 → In (holder keys k l) l × (keys (holder keys k l) ≡ k)
holder_holds keys k [] = λ n. absurd (n refl)
holder_holds keys k (x ∷ xs) = cond_both (keys x == k) x (holder keys k xs) (λ h. h ≢ 0 → In h (x ∷ xs) × (keys h ≡ k))
    (λ e n. (In.first refl, eqb-true (keys x) k e))
    (λ e n. let r = holder_holds keys k xs n in (In.later r.0, r.1))

pub holder_there : (keys : ℕ → ℕ) (k : ℕ) (l : List ℕ) (x : ℕ) → ((y : ℕ) → In y l → y ≢ 0) → In x l → keys x ≡ k → holder keys k l ≢ 0
holder_there keys k [] x h m e = elim m [ ]
holder_there keys k (y ∷ ys) x h m e =
    let c = in_cases m in
    grind (arith, h y (In.first refl), holder_there keys k ys x (λ z j. h z (In.later j)))

-- ---- the chain that is followed no further than the size

module _ (lk : ℕ → ℕ) where
  in_reached : (f p : ℕ) {x : ℕ} → In x (reached f lk p) → Ahead lk x p
  in_reached zero p m = elim m [ ]
  in_reached (suc f) p {x} m = cond_both (lk p == 0) [] (lk p ∷ reached f lk (lk p)) (λ l. In x l → Ahead lk x p)
      (λ q j. elim j [ ])
      (λ q j.
      let n = eqb-false (lk p) 0 q in
      elim (in_cases j) [
        | inl w ↦ next_at (λ v. n (cc)) (sym w)
        | inr k ↦ more_at n refl (in_reached f (lk p) k)
      ])
      m

  full_or_chain : (f p : ℕ) → (length (reached f lk p) ≡ f) ⊎ Chain lk p (reached f lk p)
  full_or_chain zero p = inl refl
  full_or_chain (suc f) p = cond_both (lk p == 0) [] (lk p ∷ reached f lk (lk p)) (λ l. (length l ≡ suc f) ⊎ Chain lk p l)
      (λ q. inr (stop (eqb-true (lk p) 0 q)))
      (λ q. elim (full_or_chain f (lk p)) [ inl h ↦ inl (ap suc h) | inr c ↦ inr (link refl (eqb-false (lk p) 0 q) c) ])

  pub reached_again : (f : ℕ) {p : ℕ} {l : List ℕ} → Chain lk p l → length l ≤ f → reached f lk p ≡ l
  reached_again zero (stop q) h = refl
  reached_again zero (link q n c) h = grind arith
  reached_again (suc f) {p} (stop q) h = grind arith
  reached_again (suc f) {p} (link {y = y} {ys = ys} q n c) h =
      let r = reached_again f c (omega arith) in
      grind arith

  module _ {stage rank : ℕ → ℕ} (o : Ordered lk stage rank) where
    pub reached_apart : (f p : ℕ) → stage p < 3 → Apart (reached f lk p)
    reached_apart zero p l = Apart.nothing
    reached_apart (suc f) p l = cond_both (lk p == 0) [] (lk p ∷ reached f lk (lk p)) Apart
        (λ q. Apart.nothing)
        (λ q.
        let k : stage (lk p) < 3 = omega arith in
        Apart.one_more (λ m. not_ahead_of_itself o k (in_reached f (lk p) m)) (reached_apart f (lk p) k))

    -- within the size, the board's chain has every node ahead
    pub sized_chain : (size p : ℕ) → stage p < 3 → ((x : ℕ) → stage x < 3 → x ≤ size) → Chain lk p (reached size lk p)
    sized_chain size p l b =
        let short = few size (reached_apart (suc size) p l) within in
        elim (full_or_chain (suc size) p) [
          | inl h ↦ absurd (grind arith)
          | inr c ↦ rw (reached_again size c short) c
        ]
      where
        within : (x : ℕ) → In x (reached (suc size) lk p) → (0 < x) × (x ≤ size)
        within x m =
            let a = in_reached (suc size) p m in
            let n = ahead_ne a in
            let k = ahead_stage o l a in
            (omega arith, b x (omega arith))
