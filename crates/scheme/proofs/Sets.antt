-- Sets of readers: whether anybody is in one; a function that is changed at one number. Assumes nothing.
use Rattle.std.specs.Prelude.{◌≡◌, ℕ, ◌<◌, Bool, true, false, ◌↔◌, ◌≢◌, refl}
use Rattle.std.proofs.Common.{arith}
use Rattle.std.proofs.lemmas.Bool.{false_from_ne_true}
use Rattle.std.proofs.lemmas.Bool.Decides.{Decides-below_or}
use Rattle.scheme.specs.Meaning.{Meaning, updated, anybody_below, anybody}

-- ---- whether anybody is in a set

abbrev pub Somebody : (ℕ → Bool) → Type 0
Somebody f = (r : ℕ) × (r < 16) × (f r ≡ true)

pub somebody : (f : ℕ → Bool) → (anybody f ≡ true) ↔ Somebody f
unfolding anybody
somebody f = Decides-below_or f (λ r. f r ≡ true) (anybody_below f) (λ r. (λ t. t, λ t. t)) refl (λ _. refl) 16

pub none_in : (f : ℕ → Bool) → anybody f ≡ false → ((k : ℕ) → f k ≡ true → k < 16) → (k : ℕ) → f k ≡ false
none_in f e known k = false_from_ne_true (f k) (λ t. let some = (somebody f).1 (k, known k t, t) in cc)

pub nobody_in : (f : ℕ → Bool) → ((k : ℕ) → f k ≡ false) → anybody f ≡ false
nobody_in f out = false_from_ne_true (anybody f) (λ t. let some = (somebody f).0 t in cc (out some.0))

-- ---- a function that is changed at one number

pub updated_at : {A : Type 0} (f : ℕ → A) (r x : ℕ) (v : A) → x ≡ r → updated f r v x ≡ v
updated_at f r x v e = grind arith

pub updated_elsewhere : {A : Type 0} (f : ℕ → A) (r x : ℕ) (v : A) → (x ≢ r) → updated f r v x ≡ f x
updated_elsewhere f r x v ne = grind arith

-- ---- meanings with equal parts are equal

pub same_meaning : (m n : Meaning) → ((x : ℕ) → m.inside x ≡ n.inside x) → m.waits ≡ n.waits → ((x : ℕ) → m.awaited x ≡ n.awaited x) → m ≡ n
same_meaning m n p q s = λ i. record { inside = λ x. p x i; waits = q i; awaited = λ x. s x i }
