-- Visits under phases, and their counts, as readers come and go. Assumes nothing.
use Rattle.std.specs.Prelude.{◌≡◌, ℕ, ◌+◌, ◌-◌, ◌<◌, true, false, List, length, replicate, nat_lt, Option, None, Some, is_some, slice_index, slice_index_or, slice_set}
use Rattle.std.proofs.Common.{ap, arith}
use Rattle.std.proofs.Math.Path.{fun_ext}
use Rattle.std.proofs.lemmas.Bool.Decides.{nat_tests}
use Rattle.std.proofs.lemmas.Grind.{common_steps}
use Rattle.scheme.specs.declared.phase_number.PhaseNumber.{PhaseNumber}
use Rattle.scheme.specs.Meaning.{nobody, updated, anybody}
use Rattle.scheme.specs.Counts.{number}
use Rattle.scheme.specs.PhaseNumbers.{index_of, other, same}
use Rattle.scheme.specs.Visits.{visiting, under}
use Rattle.scheme.proofs.Sets.{none_in}
use Rattle.scheme.proofs.Counts.{number_updated, number_le, anybody_number}
use Rattle.scheme.specs.SoundVisits.{nobody_past, under_visiting}

-- ---- the visit of one reader

pub visiting_set : (visits : List (Option PhaseNumber)) (r : ℕ) (x : Option PhaseNumber) → r < length visits → visiting (slice_set visits r x) ≡ updated (visiting visits) r (is_some x)
unfolding visiting
visiting_set visits r x h = fun_ext (λ k. grind (arith, common_steps, nat_tests))

pub entered_under : (visits : List (Option PhaseNumber)) (r : ℕ) (p q : PhaseNumber) → r < length visits → under (slice_set visits r (Some p)) q ≡ updated (under visits q) r (same p q)
unfolding under
entered_under visits r p q h = fun_ext (λ k. grind (arith, common_steps, nat_tests))

pub left_under : (visits : List (Option PhaseNumber)) (r : ℕ) (q : PhaseNumber) → r < length visits → under (slice_set visits r None) q ≡ updated (under visits q) r false
unfolding under
left_under visits r q h = fun_ext (λ k. grind (arith, common_steps, nat_tests))

under_of : (visits : List (Option PhaseNumber)) (r : ℕ) (p q : PhaseNumber) → slice_index_or visits r None ≡ Some p → under visits q r ≡ same p q
unfolding under
under_of visits r p q e = grind arith

-- ---- the counts

module _ (visits : List (Option PhaseNumber)) (r : ℕ) (p : PhaseNumber) (l : length visits ≡ 16) (h : r < 16) where
  pub room_left : visiting visits r ≡ false → number (under visits p) < 16
  room_left out = grind (arith, number_updated (under visits p) r true h, number_le (updated (under visits p) r true), under_visiting visits p r)

  pub some_counted : slice_index_or visits r None ≡ Some p → 0 < number (under visits p)
  some_counted e = grind (arith, number_updated (under visits p) r false h, under_of visits r p p e)

  module _ (counts : List ℕ) (i : ℕ) (at : i ≡ index_of p) (two : length counts ≡ 2) (counted : (q : PhaseNumber) → slice_index counts (index_of q) ≡ number (under visits q)) (q : PhaseNumber) where
    -- the counts stay right as a visit begins under p, whose count is at i
    pub one_more : visiting visits r ≡ false → slice_index (slice_set counts i (slice_index counts i + 1)) (index_of q) ≡ number (under (slice_set visits r (Some p)) q)
    one_more out = grind (arith, common_steps, counted q, entered_under visits r p q, number_updated (under visits q) r (same p q) h, under_visiting visits q r)

    -- and as one ends
    pub one_less : slice_index_or visits r None ≡ Some p → slice_index (slice_set counts i (slice_index counts i - 1)) (index_of q) ≡ number (under (slice_set visits r None) q)
    one_less e = grind (arith, common_steps, counted q, some_counted e, left_under visits r q, number_updated (under visits q) r false h, under_of visits r p q e)

-- ---- where nobody is inside under one phase, all are under the other

module _ (visits : List (Option PhaseNumber)) (p : PhaseNumber) (l : length visits ≡ 16) {n : ℕ} (counted : n ≡ number (under visits p)) where
  pub count_tells : nat_lt 0 n ≡ anybody (under visits p)
  count_tells = cc (anybody_number (under visits p))

  pub nobody_under : nat_lt 0 n ≡ false → under visits p ≡ nobody
  nobody_under e = fun_ext (none_in (under visits p) (cc count_tells) (λ r t. grind (arith, nobody_past visits r, under_visiting visits p r)))

  pub others_under : nat_lt 0 n ≡ false → under visits (other p) ≡ visiting visits
  unfolding visiting under
  others_under e = fun_ext (λ r. let none = ap (λ f. f r) (nobody_under e) in grind arith)

-- ---- nobody has entered yet

pub none_visiting : visiting (replicate 16 None) ≡ nobody
unfolding visiting
none_visiting = fun_ext (λ r. grind (arith, common_steps))

pub none_under : (visits : List (Option PhaseNumber)) (p : PhaseNumber) → visits ≡ replicate 16 None → under visits p ≡ nobody
unfolding under
none_under visits p e = fun_ext (λ r. grind (arith, common_steps))
