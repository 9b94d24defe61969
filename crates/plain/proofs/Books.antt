-- The stages, the three chains and the stamps through each change of a pool:
-- a node is filled, one is removed, a wait begins, a wait is found over; and on a new board. Assumes nothing.
use Rattle.std.proofs.Common.{◌≡◌, ℕ, suc, ◌<◌, ◌≢◌, List, [], ◌∷◌, ◌++◌, refl, arith}
use Rattle.scheme.specs.Meaning.{updated}
use Rattle.plain.specs.Pools.{upto}
use Rattle.plain.proofs.Links.{raised}
use Rattle.plain.proofs.Lists.{In, in_cases, in_append, Apart, apart_head, apart_tail, apart_append, in_upto, apart_upto}
use Rattle.plain.proofs.Shape.{Books}

module _ {size : ℕ} {free due covered : List ℕ} {stamp : ℕ → ℕ} {next : ℕ} {stage : ℕ → ℕ} where
  -- the first free node y is filled
  pub books_fill : {y : ℕ} → Books size (y ∷ free) due covered stamp next stage → Books size free due covered (updated stamp y next) (suc next) (updated stage y 0)
  books_fill {y} k =
      let fresh = k.in_free y (In.first refl) in record {
        bounded = λ x l. grind arith;
        in_free = λ x i.
            let n : x ≢ y = λ e. apart_head k.apart_free (rw e at i) in
            let r = k.in_free x (In.later i) in
            grind arith;
        in_due = λ x i. grind arith;
        in_covered = λ x i. grind arith;
        apart_free = apart_tail k.apart_free;
        apart_due = k.apart_due;
        apart_covered = k.apart_covered;
        stamps_below = λ x. grind arith;
        stamps_apart = λ x z nx nz lx lz e. grind arith;
      }

  -- the listed node x is removed
  pub books_retire : {x : ℕ} → Books size free due covered stamp next stage → stage x ≡ 0 → Books size free (x ∷ due) covered stamp next (updated stage x 1)
  books_retire {x} k kx = record {
    bounded = λ z l. grind arith;
    in_free = λ z i. grind arith;
    in_due = λ z i. let c = in_cases i in grind arith;
    in_covered = λ z i. grind arith;
    apart_free = k.apart_free;
    apart_due = Apart.one_more (λ (i : In x due). grind arith) k.apart_due;
    apart_covered = k.apart_covered;
    stamps_below = k.stamps_below;
    stamps_apart = λ u v nu nv lu lv e. grind arith;
  }

  -- a wait begins
  pub books_begin : Books size free due covered stamp next stage → Books size free [] due stamp next (λ x. raised 1 (stage x))
  books_begin k = record {
    bounded = λ x l. grind arith;
    in_free = λ x i. grind arith;
    in_due = λ x i. elim i [ ];
    in_covered = λ x i. grind arith;
    apart_free = k.apart_free;
    apart_due = Apart.nothing;
    apart_covered = k.apart_due;
    stamps_below = k.stamps_below;
    stamps_apart = λ u v nu nv lu lv e. grind arith;
  }

  -- a wait is found over
  pub books_over : Books size free due covered stamp next stage → Books size (covered ++ free) due [] stamp next (λ x. raised 2 (stage x))
  books_over k = record {
    bounded = λ x l. grind arith;
    in_free = λ x i. let c = in_append covered i in grind arith;
    in_due = λ x i. grind arith;
    in_covered = λ x i. elim i [ ];
    apart_free = apart_append k.apart_covered k.apart_free (λ x i j. grind arith);
    apart_due = k.apart_due;
    apart_covered = Apart.nothing;
    stamps_below = k.stamps_below;
    stamps_apart = λ u v nu nv lu lv e. grind arith;
  }

-- ---- a new board

-- place 0 is as listed, and every node is free
abbrev pub new_stages : ℕ → ℕ
new_stages = updated (λ x. 3) 0 0

pub books_new : (n s : ℕ) → 0 < s → Books n (upto 1 n) [] [] (λ x. 0) s new_stages
books_new n s h = record {
  bounded = λ x l. grind arith;
  in_free = λ x i. let r = in_upto 1 n i in grind arith;
  in_due = λ x i. elim i [ ];
  in_covered = λ x i. elim i [ ];
  apart_free = apart_upto 1 n;
  apart_due = Apart.nothing;
  apart_covered = Apart.nothing;
  stamps_below = λ x. h;
  stamps_apart = λ u v nu nv lu lv e. grind arith;
}
