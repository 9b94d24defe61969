-- A poll of two schemes side by side. Assumes nothing.
use Rattle.std.proofs.Common.{◌≡◌, ℕ, ◌+◌, ◌<◌, Bool, true, ◌||◌, ◌&&◌, ◌⊎◌, inl, inr, rules, arith}
use Rattle.std.specs.Prelude.{if◌then◌else◌, Result, Ok, Err, OnErr}
use Rattle.std.proofs.lemmas.Bool.Decides.{nat_tests, same_from_decides, Decides-or, Decides-like}
use mathlib.Core.HLevel.{is_prop→PathP}
use Rattle.std.proofs.Props.{props}
use Rattle.scheme.specs.declared.pair.Pair.{Pair}
use Rattle.scheme.specs.declared.interface.Poll.{Poll}
use Rattle.scheme.specs.declared.interface.Poll.TheVariants.{NotYet, Over}
use Rattle.scheme.specs.Meaning.{Meaning, Sound, Follows, anybody}
use Rattle.scheme.specs.Polls.{on_poll, says_not_yet}
use Rattle.scheme.specs.Halves.{side_by_side, joined, Joins}
use Rattle.scheme.proofs.Sets.{Somebody, somebody, same_meaning}
use Rattle.scheme.proofs.Polls.{says_awaited, inside_stays, awaited_stay}

-- ---- both

module _ (f g : ℕ → Bool) (first_low : (x : ℕ) → f x ≡ true → x < 8) (second_low : (x : ℕ) → g x ≡ true → x < 8) where
  abbrev beside : ℕ → Bool
  beside = side_by_side f g

  in_one : Somebody beside → Somebody f ⊎ Somebody g
  in_one s = grind (arith, nat_tests)

  in_both : Somebody f ⊎ Somebody g → Somebody beside
  in_both (inl s) = (s.0, s.1, grind (arith, nat_tests, first_low s.0))
  in_both (inr s) = (s.0 + 8, grind (arith, second_low s.0), grind (arith, nat_tests))

  -- somebody is in one of two sets side by side
  anybody_beside : (anybody f || anybody g) ≡ anybody beside
  anybody_beside = same_from_decides _ _ (Decides-or _ _ (somebody f) (somebody g)) (Decides-like _ in_one in_both (somebody beside))

-- ---- a poll of the pair, where each of the two was polled

module _ {A B : Type 0} {first : A → Meaning} {second : B → Meaning} {s s' : A} {t t' : B} {x y : Poll} {w : Bool} (e : w ≡ true) (sa : Sound (first s)) (sb : Sound (second t)) (j : Joins w (first s) (second t)) (p : Follows first on_poll s s' x) (q : Follows second on_poll t t' y) where
  abbrev both : Meaning
  both = joined w (first s) (second t)

  both_sound : Sound both
  both_sound = search rules

  somebody_awaited : (says_not_yet x || says_not_yet y) ≡ anybody both.awaited
  somebody_awaited = cc (says_awaited (first s) sa, says_awaited (second t) sb, anybody_beside (first s).awaited (second t).awaited (λ r t. j.first_low r (sa.within r t)) (λ r t. j.second_low r (sb.within r t)))

  -- while one of the two says not yet, the pair does, and where neither does, the pair's wait is over
  pub pair_polled : (still : Bool) → (says_not_yet x || says_not_yet y) ≡ still → ((if still then NotYet else Over) ≡ (on_poll both).answer) × (joined (still && w) (first s') (second t') ≡ (on_poll both).next)
  pair_polled still so = (
    grind (arith, nat_tests, somebody_awaited),
    same_meaning _ _
        (λ r. grind (arith, nat_tests, inside_stays (first s), inside_stays (second t), inside_stays both))
        (grind (arith, nat_tests, somebody_awaited))
        (λ r. grind (arith, nat_tests, awaited_stay (first s) sa, awaited_stay (second t) sb, awaited_stay both both_sound r)),
  )

-- ---- pairs with equal parts are equal

pub same_pair : {A B : Type 0} {first : _} {second : _} (s t : Pair A B first second) → s.first ≡ t.first → s.second ≡ t.second → s.waits ≡ t.waits → s ≡ t
same_pair {first = first} {second = second} s t p q w = λ i. record {
  first = p i;
  second = q i;
  waits = w i;
  joins = is_prop→PathP (λ j. Joins (w j) (first.meaning (p j)) (second.meaning (q j))) (λ j. hlevel props) s.joins t.joins i;
}

-- the same where a call was refused
pub same_refused : {A B T E : Type 0} {first : _} {second : _} (r : Result T E) (s t : Pair A B first second) → OnErr r (s.first ≡ t.first) → OnErr r (s.second ≡ t.second) → s.waits ≡ t.waits → OnErr r (s ≡ t)
same_refused (Ok x) s t p q w = tt
same_refused (Err e) s t p q w = same_pair s t p q w
