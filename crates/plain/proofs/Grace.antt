-- A wait begins, and is found over:
-- the pool is sound again, and a reader that was not awaited stands on no node that is freed. Assumes nothing.
use Rattle.std.proofs.Common.{◌≡◌, ℕ, Bool, true, false, [], refl, inl, arith}
use Rattle.plain.specs.Pools.{Pool, Move, Need, covering, freeing, at_over}
use Rattle.plain.specs.Boards.{Area}
use Rattle.plain.proofs.Links.{raised}
use Rattle.plain.proofs.Lists.{in_left, in_right}
use Rattle.plain.proofs.Shape.{Shaped, Somewhere, Carried, Turned, Owed}
use Rattle.plain.proofs.Books.{books_begin, books_over}

owed_over : (m : Move) (aw aw' : Bool) (x : ℕ) → aw ≡ false → Owed (at_over m) aw' x → Owed m aw x
owed_over (Move.earlier o c Need.begun) aw aw' x e w = (e, w)
owed_over m aw aw' x e w = w

module _ {size : ℕ} {q : Pool} {stage rank : ℕ → ℕ} (s : Shaped size q stage rank) where
  over_somewhere : (x : ℕ) → Somewhere q x → Somewhere (freeing q) x
  over_somewhere x (Somewhere.on_list c) = Somewhere.on_list c
  over_somewhere x (Somewhere.in_free i) = Somewhere.in_free (in_right q.covered i)
  over_somewhere x (Somewhere.in_due i) = Somewhere.in_due i
  over_somewhere x (Somewhere.in_covered i) = Somewhere.in_free (in_left q.free i)

  pub begin_shaped : q.covered ≡ [] → Shaped size (covering q) (λ x. raised 1 (stage x)) rank
  begin_shaped e = record {
    ordered = grind arith;
    books = books_begin s.books;
    keys_apart = λ x y ax ay nx ny k. s.keys_apart x y ax ay (λ w. nx (grind arith)) (λ w. ny (grind arith)) k;
    moved = grind arith;
    somewhere = λ x n l. grind arith;
  }

  pub over_shaped : Shaped size (freeing q) (λ x. raised 2 (stage x)) rank
  over_shaped = record {
    ordered = grind arith;
    books = books_over s.books;
    keys_apart = λ x y ax ay nx ny e. s.keys_apart x y ax ay (λ w. nx (grind arith)) (λ w. ny (grind arith)) e;
    moved = grind arith;
    somewhere = λ x n l. over_somewhere x (s.somewhere x n l);
  }

  -- a wait begins, and the reader is inside
  pub begin_turned : (a : Area) (aw aw' : Bool) → aw' ≡ true → Turned q (covering q) a a stage (λ x. raised 1 (stage x)) aw aw'
  begin_turned a aw aw' e = grind arith

  -- a wait is found over, and the reader is not awaited
  pub over_turned : (a : Area) (aw aw' : Bool) → aw ≡ false → Turned q (freeing q) a a stage (λ x. raised 2 (stage x)) aw aw'
  over_turned a aw aw' e = record {
    kept = λ x n l. record { key = refl; stamp = refl; fields = refl };
    guards = λ x g. record { live = grind arith; waits = λ w. grind arith };
    back = λ x z l b. inl b;
    fwd = λ x z l b. Carried.stays b;
    owed = λ c w. (owed_over q.move aw aw' c e w, λ x b. b);
  }

  -- nothing of the pool changes
  pub quiet_turned : (a : Area) (aw aw' : Bool) → aw' ≡ aw → Turned q q a a stage stage aw aw'
  quiet_turned a aw aw' e = grind arith
