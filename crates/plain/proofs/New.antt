-- What holds of every board holds of a new one, and a board that was made is a new one. Assumes nothing.
use Rattle.std.proofs.Common.{◌≡◌, ℕ, ◌<◌, ◌≤◌, refl, inl, arith}
use Rattle.plain.specs.Boards.{Board, new_board}
use Rattle.plain.specs.Plain.{make}
use Rattle.plain.proofs.Lists.{upto_in}
use Rattle.plain.proofs.Checks.{made_of}
use Rattle.plain.proofs.Shape.{Somewhere}
use Rattle.plain.proofs.Books.{new_stages, books_new}
use Rattle.plain.proofs.Follows.{Fine}

module _ (m n s : ℕ) where
  fine_new : m ≤ 16 → 0 < s → Fine (new_board m n s) new_stages (λ x. 0)
  fine_new few stamps = record {
    shaped = record {
      ordered = record {
        head = grind arith;
        falls = λ x l d. grind arith;
        down = λ x l. grind arith;
        single = λ x y kx ky e d. grind arith;
      };
      books = books_new n s stamps;
      keys_apart = λ x y ax ay nx ny e. grind arith;
      moved = tt;
      somewhere = λ x d l. Somewhere.in_free (upto_in 1 n (omega arith) (omega arith));
    };
    sound = grind arith;
    few = few;
    rests = λ r i. cc;
    idle = λ e. refl;
  }

pub fine_made : (m n s : ℕ) {b : Board} → make m n s ≡ inl b → Fine b new_stages (λ x. 0)
fine_made m n s e =
    let p = made_of m n s e in
    rw p.0 at (fine_new m n s p.1 p.2)
