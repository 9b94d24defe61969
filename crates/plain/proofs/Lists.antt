-- Lists of numbers: what is in one, and lists whose numbers are apart.
-- Of the numbers 1 to n, a list of some of them that are apart leaves out n less its length. Assumes nothing.
use Rattle.std.specs.Prelude.{◌==◌, nat_lt}
use Rattle.std.proofs.Common.{◌≡◌, ℕ, zero, suc, ◌+◌, ◌<◌, ◌≤◌, Bool, true, false, not, ◌||◌, ◌⊎◌, List, [], ◌∷◌, ◌++◌, length, refl, ap, inl, inr, arith}
use Rattle.std.proofs.lemmas.Bool.{cases_eq, eqb-true, or_cases, or_right, lt-ltb, false_from_ne_true}
use Rattle.scheme.specs.Counts.{one, count_below}
use Rattle.plain.specs.Pools.{upto}
use Rattle.plain.specs.Waits.{has}

-- std's `Contains` says at which index x is: antt would not find the list from it, and every lemma and use would have to write the list and x
pub data In (x : ℕ) : List ℕ → Type 0 where
  first : {y : ℕ} {ys : List ℕ} → x ≡ y → In x (y ∷ ys)
  later : {y : ℕ} {ys : List ℕ} → In x ys → In x (y ∷ ys)

pub data Apart : List ℕ → Type 0 where
  nothing : Apart []
  one_more : {x : ℕ} {xs : List ℕ} → ¬ (In x xs) → Apart xs → Apart (x ∷ xs)

pub in_cases : {x y : ℕ} {ys : List ℕ} → In x (y ∷ ys) → (x ≡ y) ⊎ In x ys
in_cases (first e) = inl e
in_cases (later m) = inr m

pub in_append : {x : ℕ} (xs : List ℕ) {ys : List ℕ} → In x (xs ++ ys) → In x xs ⊎ In x ys
in_append [] m = inr m
in_append (y ∷ xs) (first e) = inl (first e)
in_append (y ∷ xs) (later m) = elim (in_append xs m) [ inl a ↦ inl (later a) | inr b ↦ inr b ]

pub in_left : {x : ℕ} {xs : List ℕ} (ys : List ℕ) → In x xs → In x (xs ++ ys)
in_left ys (first e) = first e
in_left ys (later m) = later (in_left ys m)

pub in_right : {x : ℕ} (xs : List ℕ) {ys : List ℕ} → In x ys → In x (xs ++ ys)
in_right [] m = m
in_right (y ∷ xs) m = later (in_right xs m)

pub apart_head : {x : ℕ} {xs : List ℕ} → Apart (x ∷ xs) → In x xs → ⊥
apart_head (one_more n a) = n

pub apart_tail : {x : ℕ} {xs : List ℕ} → Apart (x ∷ xs) → Apart xs
apart_tail (one_more n a) = a

pub apart_append : {xs ys : List ℕ} → Apart xs → Apart ys → ((x : ℕ) → In x xs → In x ys → ⊥) → Apart (xs ++ ys)
apart_append nothing b d = b
apart_append (one_more {x = x} {xs = xs} n a) b d =
    one_more
    (λ m. let c = in_append xs m in grind (arith, d x (first refl)))
    (apart_append a b (λ z i j. d z (later i) j))

-- ---- the numbers from i on

pub in_upto : {x : ℕ} (i k : ℕ) → In x (upto i k) → (i ≤ x) × (x < i + k)
in_upto i zero m = elim m [ ]
in_upto i (suc k) (first e) = grind arith
in_upto i (suc k) (later m) = let q = in_upto (suc i) k m in (omega arith, omega arith)

pub upto_in : {x : ℕ} (i k : ℕ) → i ≤ x → x < i + k → In x (upto i k)
upto_in i zero l h = absurd (omega arith)
upto_in {x} i (suc k) l h = elim (cases_eq x i) [
  | inl e ↦ first e
  | inr n ↦ later (upto_in (suc i) k (omega arith) (omega arith))
]

pub apart_upto : (i k : ℕ) → Apart (upto i k)
apart_upto i zero = nothing
apart_upto i (suc k) = one_more (λ m. omega (arith, in_upto (suc i) k m)) (apart_upto (suc i) k)

-- ---- how many of the numbers 1 to n are left out

has_in : (xs : List ℕ) {x : ℕ} → has xs x ≡ true → In x xs
has_in [] t = cc
has_in (y ∷ ys) {x} t = elim (or_cases (x == y) (has ys x) t) [ inl e ↦ first (eqb-true x y e) | inr h ↦ later (has_in ys h) ]

in_has : {x : ℕ} {xs : List ℕ} → In x xs → has xs x ≡ true
in_has {x} (first {y = y} {ys = ys} e) = grind arith
in_has {x} (later {y = y} {ys = ys} i) = or_right (x == y) (has ys x) (in_has i)

has_not : (xs : List ℕ) (x : ℕ) → ¬ (In x xs) → has xs x ≡ false
has_not xs x n = false_from_ne_true (has xs x) (λ t. n (has_in xs t))

abbrev left_out : List ℕ → ℕ → Bool
left_out xs i = not (has xs (suc i))

count_all : (n : ℕ) → count_below (left_out []) n ≡ n
count_all zero = refl
count_all (suc n) = let rest = count_all n in let last : one true ≡ 1 = refl in omega arith

-- the next lemma, from n to suc n
one_further : (n x : ℕ) (has : ℕ → Bool) (a b : ℕ) → has (suc x) ≡ false → a + one (nat_lt x n) ≡ b →
    a + one (not (suc n == suc x || has (suc n))) + one (nat_lt x (suc n)) ≡ b + one (not (has (suc n)))
one_further n x has a b d e = grind arith

-- one number more in the list is one less that is left out
more_in : (n x : ℕ) (xs : List ℕ) → has xs (suc x) ≡ false → count_below (left_out (suc x ∷ xs)) n + one (nat_lt x n) ≡ count_below (left_out xs) n
more_in zero x xs d = grind arith
more_in (suc n) x xs d = one_further n x (has xs) _ _ d (more_in n x xs d)

pub left_out_count : (n : ℕ) {xs : List ℕ} → Apart xs → ((x : ℕ) → In x xs → (0 < x) × (x ≤ n)) → count_below (λ i. not (has xs (suc i))) n + length xs ≡ n
left_out_count n nothing h = omega (arith, count_all n)
left_out_count n (one_more {x = zero} {xs = xs} d a) h = absurd (omega (arith, h 0 (first refl)))
left_out_count n (one_more {x = suc x} {xs = xs} d a) h =
    let rest = left_out_count n a (λ y i. h y (later i)) in
    let more = more_in n x xs (has_not xs (suc x) d) in
    let below : one (nat_lt x n) ≡ 1 = ap one (lt-ltb x n (omega (arith, h (suc x) (first refl)))) in
    omega arith

-- so at most n numbers from 1 to n are apart
pub few : (n : ℕ) {xs : List ℕ} → Apart xs → ((x : ℕ) → In x xs → (0 < x) × (x ≤ n)) → length xs ≤ n
few n a h = omega (arith, left_out_count n a h)

-- and a list that has them all leaves none out
pub none_left_out : (n : ℕ) (xs : List ℕ) → ((x : ℕ) → 0 < x → x ≤ n → In x xs) → count_below (λ i. not (has xs (suc i))) n ≡ 0
none_left_out zero xs h = refl
none_left_out (suc n) xs h =
    let rest = none_left_out n xs (λ x p l. h x p (omega arith)) in
    let last : one (left_out xs n) ≡ 0 = ap (λ b. one (not b)) (in_has (h (suc n) (omega arith) (omega arith))) in
    omega arith
