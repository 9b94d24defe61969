-- What the passing of a call's checks says, check by check; what an accepted making says of the new board. Assumes nothing.
use Rattle.std.proofs.Common.{◌≡◌, ℕ, ◌<◌, ◌≤◌, false, List, [], ◌∷◌, refl, inl, arith}
use Rattle.std.proofs.lemmas.Bool.{cond_both}
use Rattle.plain.specs.Pools.{is_empty, head_or_0, tail, Move, under_way}
use Rattle.plain.specs.Boards.{Board, new_board}
use Rattle.plain.specs.Refusals.{Check, checked}
use Rattle.plain.specs.Plain.{make}

-- ---- all checks passed, or one refused

abbrev pub Passed : List Check → Type 0
Passed [] = Unit {0}
Passed (c ∷ cs) = (c.holds ≡ false) × Passed cs

pub checked_both : {A : Type 0} (cs : List Check) (done : A) (refuse : ℕ → ℕ → A) (P : A → Type 0) → (Passed cs → P done) → ((number field : ℕ) → P (refuse number field)) → P (checked cs done refuse)
checked_both [] done refuse P p r = p tt
checked_both (c ∷ cs) done refuse P p r = cond_both c.holds (refuse c.number c.field) (checked cs done refuse) P
    (λ h. r c.number c.field)
    (λ h. checked_both cs done refuse P (λ q. p (h, q)) r)

-- ---- what single checks say

pub not_empty : (l : List ℕ) → is_empty l ≡ false → l ≡ head_or_0 l ∷ tail l
not_empty [] e = cc
not_empty (x ∷ xs) e = refl

pub no_move : (m : Move) → under_way m ≡ false → m ≡ Move.none
no_move Move.none e = refl
no_move m e = cc

-- ---- a board was made

pub made_of : (m n s : ℕ) {b : Board} → make m n s ≡ inl b → (new_board m n s ≡ b) × (m ≤ 16) × (0 < s)
made_of m n s {b} = grind arith
