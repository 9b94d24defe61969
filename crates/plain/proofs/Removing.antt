-- A node is taken off the list, by a cut, by the finish of a move, or by a swap, which puts another in its place:
-- the pool is sound again, and readers can tell no more than Turned says. Assumes nothing.
use Rattle.std.proofs.Common.{◌≡◌, ℕ, ◌+◌, ◌*◌, ◌<◌, Bool, ◌≢◌, ◌⊎◌, List, ◌∷◌, sym, refl, ap, ◌∙◌, inl, inr, arith}
use Rattle.std.proofs.lemmas.Bool.{cases_eq}
use Rattle.scheme.specs.Meaning.{updated}
use Rattle.scheme.proofs.Sets.{updated_at, updated_elsewhere}
use Rattle.plain.specs.Pools.{Pool, Move, link_of, unlinked, placed_behind, swapped, with_move, old_of, before, reached}
use Rattle.plain.specs.Boards.{Area, Record, with_record}
use Rattle.plain.proofs.Links.{Ahead, ahead_ne, ahead_to, ahead_stage, Ordered, Spliced, Skipped, skip_fwd, skip_back, skip_lost, skip_ordered}
use Rattle.plain.proofs.Lists.{In, in_cases}
use Rattle.plain.proofs.Reached.{chain_ahead, ahead_chain, before_links}
use Rattle.plain.proofs.Writes.{linked_there, filling}
use Rattle.plain.proofs.Shape.{Shaped, Somewhere, Moved, guarded_set, Carried, Owed, listed_stage, place_stage, listed_chain}
use Rattle.plain.proofs.Books.{books_fill, books_retire}
use Rattle.plain.proofs.Placing
use Rattle.plain.proofs.Placing.{Turn, spliced, ordered_with}

module _ {size : ℕ} {q : Pool} {stage rank : ℕ → ℕ} (s : Shaped size q stage rank) {x : ℕ} (xa : Ahead (link_of q) x 0) where
  -- the node before x
  abbrev p : ℕ
  p = before 0 x (reached size (link_of q) 0)

  found : (link_of q p ≡ x) × ((p ≡ 0) ⊎ In p (reached size (link_of q) 0))
  found = before_links (listed_chain s) (ahead_chain (listed_chain s) xa)

  p_links : link_of q p ≡ x
  p_links = found.0

  pa : (p ≡ 0) ⊎ Ahead (link_of q) p 0
  pa = elim found.1 [ inl e ↦ inl e | inr i ↦ inr (chain_ahead (listed_chain s) i) ]

  kp : stage p ≡ 0
  kp = place_stage s pa

  kx : stage x ≡ 0
  kx = listed_stage s xa

  p_links_ne : link_of q p ≢ 0
  p_links_ne e = ahead_ne xa (sym p_links ∙ e)

  head_live : stage 0 < 3
  head_live = omega arith

  -- ---- x alone goes

  module _ (m : Move) where
    abbrev q₁ : Pool
    q₁ = with_move m (unlinked p x q)

    skipped : Skipped (link_of q) (link_of q₁) p
    skipped = record {
      at_p = cc (linked_there p (link_of q x) q, p_links);
      rest = λ z n. grind arith;
    }

    ordered₁ : Ordered (link_of q₁) (updated stage x 1) rank
    ordered₁ = rw p_links at (skip_ordered s.ordered p skipped kp p_links_ne)

    pub was_ahead : {z u : ℕ} → Ahead (link_of q₁) z u → Ahead (link_of q) z u
    was_ahead a = skip_back s.ordered p skipped kp p_links_ne a

    pub still_ahead : {z u : ℕ} → z ≢ x → Ahead (link_of q) z u → Ahead (link_of q₁) z u
    still_ahead n a = skip_fwd s.ordered p skipped kp p_links_ne (λ e. n (e ∙ p_links)) a

    pub not_listed : {z : ℕ} → Ahead (link_of q₁) z 0 → z ≢ x
    not_listed a e =
        omega (arith, ahead_stage ordered₁ (let w = ordered₁.head in omega arith) a, ordered₁.head, updated_at stage x _ 1 e)

    still_somewhere : (z : ℕ) → Somewhere q z → Somewhere q₁ z
    still_somewhere z (Somewhere.on_list c) = elim (cases_eq z x) [
      | inl e ↦ Somewhere.in_due (In.first e)
      | inr n ↦ Somewhere.on_list (still_ahead n c)
    ]
    still_somewhere z (Somewhere.in_free i) = Somewhere.in_free i
    still_somewhere z (Somewhere.in_due i) = Somewhere.in_due (In.later i)
    still_somewhere z (Somewhere.in_covered i) = Somewhere.in_covered i

    -- what is left to show is said of the keys, the new move and x
    pub removing : (a : Area) →
        ((y z : ℕ) → Ahead (link_of q) y 0 → Ahead (link_of q) z 0 → y ≢ x → z ≢ x → y ≢ old_of m → z ≢ old_of m → q.key y ≡ q.key z → y ≡ z) →
        Moved q₁ m → ((aw : Bool) (c : ℕ) → Owed m aw c → ⊥) →
        ((u : ℕ) → stage u < 3 → Ahead (link_of q) x u → Carried q q₁ u x) →
        Turn size q q₁ a a stage
    removing a apart mv none lost = record {
      stage' = updated stage x 1;
      rank' = rank;
      shaped = record {
        ordered = ordered₁;
        books = books_retire s.books kx;
        keys_apart = λ y z ay az ny nz e. apart y z (was_ahead ay) (was_ahead az) (not_listed ay) (not_listed az) ny nz e;
        moved = mv;
        somewhere = λ z n l. still_somewhere z (s.somewhere z n l);
      };
      covered = refl;
      turned = λ aw. record {
        kept = λ z n l. record { key = refl; stamp = refl; fields = refl };
        guards = λ z g. guarded_set x 1 (omega arith) z g;
        back = λ u z l b. inl (was_ahead b);
        fwd = λ u z l b. elim (cases_eq z x) [
          | inl e ↦ rw e (lost u l (ahead_to e b))
          | inr n ↦ Carried.stays (still_ahead n b)
        ];
        owed = λ c w. grind arith;
      };
    }

  -- ---- y takes the place of x

  module _ (k : ℕ) {y : ℕ} {rest : List ℕ} (free : q.free ≡ y ∷ rest) where
    abbrev q₂ : Pool
    q₂ = swapped k p x q

    open filling s free k (link_of q x) kp use {free as fresh, at_p, at_y, elsewhere, key_new, key_old, others}

    x_ne : x ≢ y
    x_ne = fresh.live_ne x (omega (arith, kx))

    x_ne_p : x ≢ p
    x_ne_p e =
        omega (arith, s.ordered.falls p (let w = kp in omega arith) p_links_ne, ap rank (p_links ∙ e))

    -- the links with y put behind p, before x is skipped
    abbrev lk : ℕ → ℕ
    lk = link_of (placed_behind k p q)

    put_in : Spliced (link_of q) lk p y
    put_in = spliced s k free pa q.move

    lk_y : lk y ≡ x
    lk_y = put_in.at_y ∙ p_links

    then_out : Skipped lk (link_of q₂) y
    then_out = record {
      at_p = cc (at_y, lk_y, put_in.rest x x_ne_p x_ne);
      rest = λ z n. grind (arith, at_p, put_in.at_p, elsewhere z, put_in.rest z);
    }

    abbrev stage₁ : ℕ → ℕ
    stage₁ = updated stage y 0

    abbrev rank₁ : ℕ → ℕ
    rank₁ = updated (λ z. 2 * rank z + 2) y (2 * rank p + 1)

    abbrev stage₂ : ℕ → ℕ
    stage₂ = updated stage₁ x 1

    middle : Ordered lk stage₁ rank₁
    middle = ordered_with s k free pa q.move

    ky : stage₁ y ≡ 0
    ky = grind arith

    lk_y_ne : lk y ≢ 0
    lk_y_ne e = ahead_ne xa (sym lk_y ∙ e)

    ordered₂ : Ordered (link_of q₂) stage₂ rank₁
    ordered₂ = rw lk_y at (skip_ordered middle y then_out ky lk_y_ne)

    into_middle : {z u : ℕ} → stage u < 3 → Ahead (link_of q) z u → Ahead lk z u
    into_middle l a = Placing.still_ahead s k free pa q.move l a

    out_of_middle : {z u : ℕ} → z ≢ x → Ahead lk z u → Ahead (link_of q₂) z u
    out_of_middle n a = skip_fwd middle y then_out ky lk_y_ne (λ e. n (e ∙ lk_y)) a

    back_to_middle : {z u : ℕ} → Ahead (link_of q₂) z u → Ahead lk z u
    back_to_middle a = skip_back middle y then_out ky lk_y_ne a

    back : {z u : ℕ} → stage u < 3 → Ahead (link_of q₂) z u → (z ≡ y) ⊎ Ahead (link_of q) z u
    back l a = Placing.was_ahead s k free pa q.move l (back_to_middle a)

    new_listed : Ahead (link_of q₂) y 0
    new_listed = out_of_middle (λ e. x_ne (sym e)) (Placing.new_listed s k free pa q.move)

    not_x : {z : ℕ} → Ahead (link_of q₂) z 0 → z ≢ x
    not_x a e =
        let w = ordered₂.head in
        let n = ahead_stage ordered₂ (omega arith) a in
        let v = updated_at stage₁ x _ 1 e in
        omega arith

    lost : (u : ℕ) → stage u < 3 → q.key x ≡ k → Ahead (link_of q) x u → Carried q q₂ u x
    lost u l e a = elim (skip_lost middle y then_out ky lk_y_ne (ahead_to (sym lk_y) (into_middle l a))) [
      | inl i ↦ absurd (fresh.live_ne u l i)
      | inr o ↦ elim o [
        | inl b ↦ Carried.replaced y (out_of_middle (λ i. x_ne (sym i)) b) (grind arith)
        | inr b ↦ Carried.stays (ahead_to lk_y b)
      ]
    ]

    keys₂ : q.move ≡ Move.none → q.key x ≡ k → (a b : ℕ) → Ahead (link_of q₂) a 0 → Ahead (link_of q₂) b 0 → q₂.key a ≡ q₂.key b → a ≡ b
    keys₂ still ex a b aa ab e =
        let ca = back head_live aa in
        let cb = back head_live ab in
        grind (arith, alone, key_new, key_old, old_ne, no_old, s.keys_apart a b)
      where
        no_old : {z : ℕ} → Ahead (link_of q) z 0 → z ≢ old_of q.move
        no_old c i = ahead_ne c (cc)

        old_ne : {z : ℕ} → Ahead (link_of q) z 0 → z ≢ y
        old_ne c = fresh.live_ne _ (omega (arith, listed_stage s c))

        alone : (z : ℕ) → Ahead (link_of q₂) z 0 → Ahead (link_of q) z 0 → q₂.key z ≢ k
        alone z az cz i = grind (arith, not_x az, key_old z (old_ne cz), s.keys_apart z x cz xa (no_old cz) (no_old xa))

    still_somewhere₂ : (z : ℕ) → Somewhere q z → Somewhere q₂ z
    still_somewhere₂ z (Somewhere.on_list c) = elim (cases_eq z x) [
      | inl e ↦ Somewhere.in_due (In.first e)
      | inr n ↦ Somewhere.on_list (out_of_middle n (into_middle head_live c))
    ]
    still_somewhere₂ z (Somewhere.in_free i) = elim (in_cases (rw free at i)) [
      | inl e ↦ Somewhere.on_list (ahead_to (sym e) new_listed)
      | inr j ↦ Somewhere.in_free (rw free j)
    ]
    still_somewhere₂ z (Somewhere.in_due i) = Somewhere.in_due (In.later i)
    still_somewhere₂ z (Somewhere.in_covered i) = Somewhere.in_covered i

    pub swapping : (a : Area) (v : Record) → q.move ≡ Move.none → q.key x ≡ k → Turn size q q₂ a (with_record y v a) stage
    swapping a v still ex = record {
      stage' = stage₂;
      rank' = rank₁;
      shaped = record {
        ordered = ordered₂;
        books = rw free (books_retire (books_fill (rw free at s.books)) (updated_elsewhere stage y x 0 x_ne ∙ kx));
        keys_apart = λ b c ab ac nb nc e. keys₂ still ex b c ab ac e;
        moved = rw still tt;
        somewhere = λ z n l. still_somewhere₂ z (s.somewhere z n l);
      };
      covered = refl;
      turned = λ aw. record {
        kept = others (x ∷ q.due) q.move a v;
        guards = λ z g. guarded_set x 1 (omega arith) z (guarded_set y 0 (omega arith) z g);
        back = λ u z l b. elim (back l b) [
          | inl e ↦ inr (cc (fresh.is_free), ahead_to (sym e) new_listed)
          | inr c ↦ inl c
        ];
        fwd = λ u z l b. elim (cases_eq z x) [
          | inl e ↦ rw e (lost u l ex (ahead_to e b))
          | inr n ↦ Carried.stays (out_of_middle n (into_middle l b))
        ];
        owed = λ c w. grind arith;
      };
    }
