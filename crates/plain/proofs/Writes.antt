-- The links of a pool after one is written, and after a node is filled. Another node's record stays.
-- What is true of the first free node, and of the pool when it is filled and linked. Assumes nothing.
use Rattle.std.proofs.Common.{◌≡◌, ℕ, ◌-◌, ◌<◌, ◌≢◌, List, [], ◌∷◌, refl, sym, ap, ◌∙◌, arith, get_or-set_other}
use Rattle.scheme.proofs.Sets.{updated_at, updated_elsewhere}
use Rattle.plain.specs.Pools.{Pool, Move, link_of, link_to, filled, head_or_0}
use Rattle.plain.specs.Boards.{Area, Record, record_at, with_record}
use Rattle.plain.proofs.Links.{Free, free_at}
use Rattle.plain.proofs.Lists.{In}
use Rattle.plain.proofs.Shape.{Shaped, Same}

-- ---- a link is written

module _ (p v : ℕ) (q : Pool) where
  pub linked_there : link_of (link_to p v q) p ≡ v
  linked_there = grind arith

  linked_elsewhere : (x : ℕ) → x ≢ p → link_of (link_to p v q) x ≡ link_of q x
  linked_elsewhere x d = grind arith

-- ---- the first free node is filled

module _ (k v : ℕ) (q : Pool) (y : ℕ) (is : head_or_0 q.free ≡ y) where
  filled_there : y ≢ 0 → link_of (filled k v q) y ≡ v
  filled_there n = grind arith

  filled_elsewhere : (x : ℕ) → x ≢ y → link_of (filled k v q) x ≡ link_of q x
  filled_elsewhere x d = grind arith

-- ---- another node's record stays

record_stays : (a : Area) (y x : ℕ) (v : Record) → y ≢ 0 → x ≢ 0 → x ≢ y → record_at (with_record y v a) x ≡ record_at a x
record_stays a y x v ny nx d = get_or-set_other a (y - 1) (x - 1) v [] (λ e. d (omega arith))

-- ---- the first free node y is filled with the key k and the link v, and the place p links to it

abbrev linked_in : (k v p : ℕ) → Pool → Pool
linked_in k v p q = link_to p (head_or_0 q.free) (filled k v q)

pub record Filling (q : Pool) (stage : ℕ → ℕ) (k v p y : ℕ) : Type 0 where
  pub free : Free stage y
  pub at_p : link_of (linked_in k v p q) p ≡ y
  pub at_y : link_of (linked_in k v p q) y ≡ v
  pub elsewhere : (x : ℕ) → x ≢ p → x ≢ y → link_of (linked_in k v p q) x ≡ link_of q x
  pub key_new : (linked_in k v p q).key y ≡ k
  pub key_old : (x : ℕ) → x ≢ y → (linked_in k v p q).key x ≡ q.key x
  -- whatever is due then, and whichever move is under way
  pub others : (due : List ℕ) (m : Move) (a : Area) (w : Record) (x : ℕ) → x ≢ 0 → stage x < 3 →
      Same q (record (linked_in k v p q) { due = due; move = m }) a (with_record y w a) x

module _ {size : ℕ} {q : Pool} {stage rank : ℕ → ℕ} (s : Shaped size q stage rank) {y : ℕ} {rest : List ℕ} (free : q.free ≡ y ∷ rest) where
  first_free : Free stage y
  first_free = free_at s.ordered (s.books.in_free y (rw free (In.first refl))).0

  pub filling : (k v : ℕ) {p : ℕ} → stage p ≡ 0 → Filling q stage k v p y
  filling k v {p} kp =
      let g = first_free in
      let y' = head_or_0 q.free in
      let head : y' ≡ y = rw free refl in
      let p_ne : p ≢ y = g.live_ne p (omega arith) in
      let old = λ (f : ℕ → ℕ) (w x : ℕ) (n : x ≢ y). updated_elsewhere f y' x w (λ e. n (e ∙ head)) in
      record {
        free = g;
        at_p = linked_there p y' (filled k v q) ∙ head;
        at_y = linked_elsewhere p y' (filled k v q) y (λ e. p_ne (sym e)) ∙ filled_there k v q y head g.ne;
        elsewhere = λ x d n. linked_elsewhere p y' (filled k v q) x d ∙ filled_elsewhere k v q y head x n;
        key_new = updated_at q.key y' y k (sym head);
        key_old = old q.key k;
        others = λ due m a w x n l. record {
          key = old q.key k x (g.live_ne x l);
          stamp = old q.stamp q.next_stamp x (g.live_ne x l);
          fields = record_stays a y x w g.ne n (g.live_ne x l);
        };
      }
