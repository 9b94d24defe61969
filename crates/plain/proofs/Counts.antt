-- Every node is in exactly one of four places: listed, free, due or covered.
-- So the lengths of the four add up to the size of the board, and what is not listed is free, due or covered. Assumes nothing.
use Rattle.std.proofs.Common.{◌≡◌, ℕ, suc, ◌+◌, ◌<◌, ◌≤◌, not, ◌≢◌, List, ◌++◌, length, arith, length-append}
use Rattle.scheme.specs.Counts.{count_below}
use Rattle.plain.specs.Pools.{Pool, link_of, reached}
use Rattle.plain.specs.Waits.{has}
use Rattle.plain.proofs.Lists.{In, in_append, in_left, in_right, Apart, apart_append, few, left_out_count, none_left_out}
use Rattle.plain.proofs.Links.{ahead_ne}
use Rattle.plain.proofs.Reached.{chain_ahead, ahead_chain, reached_apart}
use Rattle.plain.proofs.Shape.{Shaped, Somewhere, listed_stage, listed_chain}

module _ {size : ℕ} {q : Pool} {stage rank : ℕ → ℕ} (s : Shaped size q stage rank) where
  abbrev on_list : List ℕ
  on_list = reached size (link_of q) 0

  abbrev off_list : List ℕ
  off_list = q.free ++ (q.due ++ q.covered)

  -- the stage of a node tells which of the four it is in
  in_list : (x : ℕ) → In x on_list → (stage x ≡ 0) × (x ≢ 0)
  in_list x i = let a = chain_ahead (listed_chain s) i in (listed_stage s a, ahead_ne a)

  in_off : (x : ℕ) → In x off_list → (stage x ≢ 0) × (x ≤ size)
  in_off x i = let c = in_append q.free i in grind (arith, in_append {x = x} q.due)

  listed_apart : Apart on_list
  listed_apart = reached_apart (link_of q) s.ordered size 0 (omega arith)

  pub all_apart : Apart (on_list ++ off_list)
  all_apart = apart_append listed_apart
      (apart_append s.books.apart_free
      (apart_append s.books.apart_due s.books.apart_covered (λ x i j. grind arith))
      (λ x i j. let c = in_append q.due j in grind arith))
      (λ x i j. (in_off x j).0 (in_list x i).0)

  list_in_range : (x : ℕ) → In x on_list → (0 < x) × (x ≤ size)
  list_in_range x j =
      let k = in_list x j in
      (omega arith, s.books.bounded x (omega arith))

  pub listed_few : length (reached size (link_of q) 0) ≤ size
  listed_few = few size listed_apart list_in_range

  in_range : (x : ℕ) → In x (on_list ++ off_list) → (0 < x) × (x ≤ size)
  in_range x i = let c = in_append on_list i in grind (arith, list_in_range x, in_off x)

  pub placed : (x : ℕ) → Somewhere q x → In x (on_list ++ off_list)
  placed x (Somewhere.on_list a) = in_left off_list (ahead_chain (listed_chain s) a)
  placed x (Somewhere.in_free i) = in_right on_list (in_left (q.due ++ q.covered) i)
  placed x (Somewhere.in_due i) = in_right on_list (in_right q.free (in_left q.covered i))
  placed x (Somewhere.in_covered i) = in_right on_list (in_right q.free (in_right q.due i))

  -- the nodes that are not listed are the free, the due and the covered ones
  pub not_listed_count : count_below (λ i. not (has (reached size (link_of q) 0) (suc i))) size ≡ length q.free + length q.due + length q.covered
  not_listed_count =
      let all = left_out_count size all_apart in_range in
      let none = none_left_out size (on_list ++ off_list) (λ x p l. placed x (s.somewhere x (omega arith) l)) in
      let listed = left_out_count size listed_apart list_in_range in
      let a = length-append on_list off_list in
      let b = length-append q.free (q.due ++ q.covered) in
      let c = length-append q.due q.covered in
      omega arith
