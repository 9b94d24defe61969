-- The refusals of every call are in ascending order; after every run the list is whole, and each node is in one place. Assumes nothing.
use Rattle.std.proofs.Common.{◌≡◌, ℕ, suc, true, List, [], ◌∷◌, refl, arith}
use Rattle.std.proofs.lemmas.Bool.{ne_eqb}
use Rattle.record.specs.Making.{Making}
use Rattle.plain.specs.Pools.{link_of}
use Rattle.plain.specs.Boards.{Board, Area}
use Rattle.plain.specs.Calls.{Call}
use Rattle.plain.specs.Refusals.{checks}
use Rattle.plain.specs.Sanity.{ascending, RefusalsAscend, times, BoardsStayWhole}
use Rattle.plain.proofs.Lists.{In, in_cases, Apart}
use Rattle.plain.proofs.Reached.{reached_again}
use Rattle.plain.proofs.Shape.{listed_chain}
use Rattle.plain.proofs.Counts.{all_apart, placed, listed_few}
use Rattle.plain.proofs.States.{state}

calls_ascend : (making : Making) (b : Board) (area : Area) (c : Call) → ascending 0 (checks making b area c) ≡ true
calls_ascend making b area (Call.enter r) = refl
calls_ascend making b area c = refl

pub refusals_ascend : RefusalsAscend
refusals_ascend = record { of_making = λ m n s. refl; of_calls = calls_ascend }

-- ---- how often a number is in a list whose numbers are apart

not_at_all : (x : ℕ) (xs : List ℕ) → ¬ (In x xs) → times x xs ≡ 0
not_at_all x [] n = refl
not_at_all x (y ∷ ys) n = cc (ne_eqb x y (λ e. n (In.first e)), not_at_all x ys (λ i. n (In.later i)))

once : (x : ℕ) {xs : List ℕ} → Apart xs → In x xs → times x xs ≡ 1
once x Apart.nothing i = elim i [ ]
once x (Apart.one_more {x = y} {xs = ys} d a) i = let c = in_cases i in grind (arith, not_at_all y ys, once x a)

pub boards_stay_whole : BoardsStayWhole
boards_stay_whole making h b area run =
    let s = (state making run).fine.shaped in
    let few = listed_few s in
    record {
      list = reached_again (link_of b.pool) (suc b.size) (listed_chain s) (omega arith);
      nodes = λ x p l. once x (all_apart s) (placed s x (s.somewhere x (λ e. omega arith) l));
    }
