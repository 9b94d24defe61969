-- A node is put on the list, by a put or a move:
-- the pool is sound again, and readers can tell no more than Turned says. Assumes nothing.
use Rattle.std.proofs.Common.{◌≡◌, ℕ, ◌+◌, ◌*◌, ◌<◌, Bool, ◌≢◌, ◌⊎◌, List, ◌∷◌, sym, refl, inl, inr, arith}
use Rattle.scheme.specs.Meaning.{updated}
use Rattle.plain.specs.Pools.{Pool, Move, link_of, placed_behind, with_move, old_of}
use Rattle.plain.specs.Boards.{Area, Record, with_record}
use Rattle.plain.proofs.Links.{Ahead, next_at, ahead_ne, ahead_from, ahead_to, ahead_trans, Ordered, Spliced, splice_fwd, splice_back, splice_ordered}
use Rattle.plain.proofs.Lists.{in_cases}
use Rattle.plain.proofs.Writes.{filling}
use Rattle.plain.proofs.Shape.{Shaped, Somewhere, Moved, Carried, Turned, Owed, guarded_set, listed_stage, place_stage}
use Rattle.plain.proofs.Books.{books_fill}

-- what a change of a pool gives: the pool is sound again, and readers that are awaited or not as before can tell no more than Turned says
pub record Turn (size : ℕ) (q q' : Pool) (a a' : Area) (stage : ℕ → ℕ) : Type 0 where
  pub stage' : ℕ → ℕ
  pub rank' : ℕ → ℕ
  pub shaped : Shaped size q' stage' rank'
  pub covered : q'.covered ≡ q.covered
  pub turned : (aw : Bool) → Turned q q' a a' stage stage' aw aw

module _ {size : ℕ} {q : Pool} {stage rank : ℕ → ℕ} (s : Shaped size q stage rank)
    (k : ℕ) {p y : ℕ} {rest : List ℕ} (free : q.free ≡ y ∷ rest) (pa : (p ≡ 0) ⊎ Ahead (link_of q) p 0) (m : Move) where
  abbrev q₁ : Pool
  q₁ = with_move m (placed_behind k p q)

  kp : stage p ≡ 0
  kp = place_stage s pa

  open filling s free k (link_of q p) kp use {free as fresh, at_p, at_y, elsewhere, key_new, key_old, others}

  pub spliced : Spliced (link_of q) (link_of q₁) p y
  spliced = record { at_p = at_p; at_y = at_y; rest = elsewhere }

  abbrev stage₁ : ℕ → ℕ
  stage₁ = updated stage y 0

  pub ordered_with : Ordered (link_of q₁) stage₁ (updated (λ x. 2 * rank x + 2) y (2 * rank p + 1))
  ordered_with = splice_ordered s.ordered p y spliced kp fresh

  pub still_ahead : {z x : ℕ} → stage x < 3 → Ahead (link_of q) z x → Ahead (link_of q₁) z x
  still_ahead l a = splice_fwd s.ordered p y spliced kp fresh l a

  pub listed_live : stage 0 < 3
  listed_live = omega arith

  pub behind_p : Ahead (link_of q₁) y p
  behind_p = next_at fresh.ne spliced.at_p

  pub new_listed : Ahead (link_of q₁) y 0
  new_listed = elim pa [
    | inl e ↦ ahead_from e behind_p
    | inr a ↦ ahead_trans (still_ahead listed_live a) behind_p
  ]

  -- a node ahead now is the new one, or was ahead
  pub was_ahead : {z x : ℕ} → stage x < 3 → Ahead (link_of q₁) z x → (z ≡ y) ⊎ Ahead (link_of q) z x
  was_ahead l a = splice_back s.ordered p y spliced kp fresh l a

  pub old_ne : {x : ℕ} → Ahead (link_of q) x 0 → x ≢ y
  old_ne a = fresh.live_ne _ (omega (arith, listed_stage s a))

  KeysApart : Type 0
  KeysApart = (x z : ℕ) → Ahead (link_of q₁) x 0 → Ahead (link_of q₁) z 0 → x ≢ old_of m → z ≢ old_of m → q₁.key x ≡ q₁.key z → x ≡ z

  -- the keys are apart if no listed node but the one that is moved has the key k
  keys_apart₁ : old_of q.move ≡ 0 → ((x : ℕ) → Ahead (link_of q) x 0 → x ≢ old_of m → q.key x ≢ k) → KeysApart
  unfolding KeysApart
  keys_apart₁ o new x z ax az nx nz e =
      let bx = was_ahead listed_live ax in
      let bz = was_ahead listed_live az in
      grind (arith, new, key_new, key_old, old_ne, ahead_ne, s.keys_apart x z)

  still_somewhere : (x : ℕ) → Somewhere q x → Somewhere q₁ x
  still_somewhere x (Somewhere.on_list c) = Somewhere.on_list (still_ahead listed_live c)
  still_somewhere x (Somewhere.in_free i) = elim (in_cases (rw free at i)) [
    | inl e ↦ Somewhere.on_list (ahead_to (sym e) new_listed)
    | inr j ↦ Somewhere.in_free (rw free j)
  ]
  still_somewhere x (Somewhere.in_due i) = Somewhere.in_due i
  still_somewhere x (Somewhere.in_covered i) = Somewhere.in_covered i

  -- what is left to show is said of the new move
  pub placing : (a : Area) (v : Record) → old_of q.move ≡ 0 → ((x : ℕ) → Ahead (link_of q) x 0 → x ≢ old_of m → q.key x ≢ k) →
      Moved q₁ m → ((aw : Bool) (c : ℕ) → Owed m aw c → ⊥) → Turn size q q₁ a (with_record y v a) stage
  unfolding KeysApart
  placing a v o new mv none = record {
    stage' = stage₁;
    rank' = updated (λ x. 2 * rank x + 2) y (2 * rank p + 1);
    shaped = record { ordered = ordered_with; books = rw free (books_fill (rw free at s.books)); keys_apart = keys_apart₁ o new; moved = mv; somewhere = λ x n l. still_somewhere x (s.somewhere x n l) };
    covered = refl;
    turned = λ aw. record {
      kept = others q.due m a v;
      guards = λ x g. guarded_set y 0 (omega arith) x g;
      back = λ x z l b. let c = was_ahead l b in grind (arith, fresh.is_free, new_listed);
      fwd = λ x z l b. Carried.stays (still_ahead l b);
      owed = λ c w. grind arith;
    };
  }
