-- Along every run: the due chain is empty exactly when each removal lies before the start of a wait,
-- and the due and the covered chain are exactly when each such wait has been found over. So the counts settle. Assumes nothing.
use Rattle.std.proofs.Common.{◌≡◌, ℕ, ◌↔◌, List, [], ◌∷◌, ◌++◌, refl, ap, subst, arith}
use Rattle.std.proofs.lemmas.List.{nil_from_length}
use mathlib.Core.Logic.Iff
use Rattle.scheme.specs.Histories.{Any}
use Rattle.record.specs.Making.{Making}
use Rattle.plain.specs.Boards.{Board, Area}
use Rattle.plain.specs.Calls.{Call}
use Rattle.plain.specs.Plain.{result}
use Rattle.plain.specs.History.{Moment, History, Run}
use Rattle.plain.specs.Waits.{Removes, Begins, FindsOver, WaitPassed, Settled, counts, CountsSettle}
use Rattle.plain.proofs.Checks.{made_of}
use Rattle.plain.proofs.Follows.{Fine}
use Rattle.plain.proofs.Events.{Did, did}
use Rattle.plain.proofs.States.{state}
use Rattle.plain.proofs.Counts.{not_listed_count}

-- ---- what came after each removal

-- after each removal of h, P holds of what came since
abbrev pub After : (History → Type 0) → History → Type 0
After P h = (newer older : History) (m : Moment) → h ≡ newer ++ m ∷ older → Removes m → P newer

-- each removal lies before the start of a wait
abbrev Covered : History → Type 0
Covered h = After (Any Begins) h

pub after_none : (P : History → Type 0) → After P []
after_none P [] older m e r = cc
after_none P (x ∷ newer) older m e r = cc

pub after_more : (P : History → Type 0) {m : Moment} {h : History} → (Removes m → P []) → After (λ g. P (m ∷ g)) h → After P (m ∷ h)
after_more P {m = n} f k [] older m e r = let newest : n ≡ m = cc in f (rw newest r)
after_more P {m = n} f k (x ∷ newer) older m e r = let newest : n ≡ x = cc in rw newest at (k newer older m (cc) r)

after_newest : (P : History → Type 0) {m : Moment} {h : History} → Removes m → After P (m ∷ h) → P []
after_newest P {m = m} {h = h} r a = a [] h m refl r

after_older : (P : History → Type 0) {m : Moment} {h : History} → After P (m ∷ h) → After (λ g. P (m ∷ g)) h
after_older P {m = m} a newer older n e r = a (m ∷ newer) older n (ap (λ (g : History). m ∷ g) e) r

-- ---- one moment more

pub no_any : {P : Moment → Type 0} → Any P [] → ⊥
no_any w = elim w [ ]

pub any_older : {P : Moment → Type 0} {m : Moment} {h : History} → ¬ (P m) → Any P (m ∷ h) → Any P h
any_older n (Any.here p) = absurd (n p)
any_older n (Any.there s) = s

passed_older : {m : Moment} {h : History} → ¬ (FindsOver m) → WaitPassed (m ∷ h) → WaitPassed h
passed_older n (WaitPassed.found o s) = absurd (n o)
passed_older n (WaitPassed.earlier w) = w

passed_begun : {h : History} → WaitPassed h → Any Begins h
passed_begun (WaitPassed.found o s) = Any.there s
passed_begun (WaitPassed.earlier w) = Any.there (passed_begun w)

begun_before : {m : Moment} {h : History} → WaitPassed (m ∷ h) → Any Begins h
begun_before (WaitPassed.found o s) = s
begun_before (WaitPassed.earlier w) = passed_begun w

module _ {m : Moment} {h : History} (keeps : ¬ (Removes m)) where
  covered_kept : ¬ (Begins m) → Covered h ↔ Covered (m ∷ h)
  covered_kept nb = (
    (λ a. after_more (Any Begins) (λ r. absurd (keeps r)) (λ newer older x e r. Any.there (a newer older x e r))),
    (λ a newer older x e r. any_older nb (after_older (Any Begins) a newer older x e r)),
  )

  settled_kept : ¬ (FindsOver m) → Settled h ↔ Settled (m ∷ h)
  settled_kept no_over = (
    (λ a. after_more WaitPassed (λ r. absurd (keeps r)) (λ newer older x e r. WaitPassed.earlier (a newer older x e r))),
    (λ a newer older x e r. passed_older no_over (after_older WaitPassed a newer older x e r)),
  )

  covered_begins : Begins m → Covered (m ∷ h)
  covered_begins k = after_more (Any Begins) (λ r. absurd (keeps r)) (λ newer older x e r. Any.here k)

  settled_over : FindsOver m → Covered h ↔ Settled (m ∷ h)
  settled_over k = (
    (λ a. after_more WaitPassed (λ r. absurd (keeps r)) (λ newer older x e r. WaitPassed.found k (a newer older x e r))),
    (λ a newer older x e r. begun_before (after_older WaitPassed a newer older x e r)),
  )

-- ---- every run

-- the due and the covered chain after h
record Chained (h : History) (due covered : List ℕ) : Type 0 where
  begun : (due ≡ []) ↔ Covered h
  settled : ((due ≡ []) × (covered ≡ [])) ↔ Settled h

tend_removes_not : {m : Moment} → m.call ≡ Call.tend → Removes m → ⊥
tend_removes_not c r = grind arith

begins_over_not : {m : Moment} → Begins m → ¬ (FindsOver m)
begins_over_not k o = cc

module _ {h : History} {m : Moment} {due covered : List ℕ} (i : Chained h due covered) where
  chained_kept : ¬ (Removes m) → ¬ (Begins m) → ¬ (FindsOver m) → Chained (m ∷ h) due covered
  chained_kept keeps nb no_over = record { begun = Iff.trans i.begun (covered_kept keeps nb); settled = Iff.trans i.settled (settled_kept keeps no_over) }

  chained_removal : (x : ℕ) → Removes m → Chained (m ∷ h) (x ∷ due) covered
  chained_removal x r = record {
    begun = ((λ e. cc), (λ k. elim (after_newest (Any Begins) r k) [ ]));
    settled = ((λ e. cc), (λ k. elim (after_newest WaitPassed r k) [ ]));
  }

  chained_begins : Begins m → covered ≡ [] → Chained (m ∷ h) [] due
  chained_begins k none =
      let keeps : ¬ (Removes m) = λ r. tend_removes_not k.0 r in
      let still = settled_kept keeps (begins_over_not k) in
      record {
        begun = ((λ e. covered_begins keeps k), (λ e. refl));
        settled = ((λ e. still.0 (i.settled.0 (e.1, none))), (λ e. (refl, (i.settled.1 (still.1 e)).0)));
      }

  chained_over : FindsOver m → Chained (m ∷ h) due []
  chained_over k =
      let keeps : ¬ (Removes m) = λ r. tend_removes_not k.asked r in
      let now = settled_over keeps k in
      record {
        begun = Iff.trans i.begun (covered_kept keeps (λ b. begins_over_not b k));
        settled = ((λ e. now.0 (i.begun.0 e.0)), (λ e. (i.begun.1 (now.1 e), refl)));
      }

-- chains that are equal are chained alike
chained_as : {h : History} {due covered due' covered' : List ℕ} → due' ≡ due → covered' ≡ covered → Chained h due covered → Chained h due' covered'
chained_as {h} {due} {covered} {due'} p q c = rw q (rw p c)

chained_on : {h : History} {b : Board} {m : Moment} {stage rank : ℕ → ℕ} → Fine b stage rank → Chained h b.pool.due b.pool.covered → Did b m → Chained (m ∷ h) m.board.pool.due m.board.pool.covered
chained_on f i (Did.nothing t keeps c) = chained_as c.due c.covered (chained_kept i keeps t.silent.no_begin t.silent.no_over)
chained_on f i (Did.visit t s nb no_over keeps c) = chained_as c.due c.covered (chained_kept i keeps nb no_over)
chained_on f i (Did.removal x t r c) = chained_as c.due c.covered (chained_removal i x r)
chained_on f i (Did.wait_begins t k w c) = chained_as c.due c.covered (chained_begins i k (f.idle w))
chained_on f i (Did.wait_ends t k c) = chained_as c.due c.covered (chained_over i k)

chained : (making : Making) {h : History} {b : Board} {a : Area} → Run (result making) h b a → Chained h b.pool.due b.pool.covered
chained making (Run.made m n s area made) = subst (λ (b : Board). Chained [] b.pool.due b.pool.covered) (made_of m n s made).0
    (record { begun = ((λ e. after_none (Any Begins)), (λ a. refl)); settled = ((λ e. after_none WaitPassed), (λ a. (refl, refl))) })
chained making (Run.called {b = b} {area = a} run c) = let f = (state making run).fine in chained_on f (chained making run) (did f a making c)

-- ---- the law

pub counts_settle : (making : Making) {h : History} {b : Board} {a : Area} → Run (result making) h b a → CountsSettle (counts b) h
counts_settle making {b = b} run =
    let all = not_listed_count (state making run).fine.shaped in
    let i = chained making run in (
      (λ e. i.settled.0 (nil_from_length b.pool.due (omega arith), nil_from_length b.pool.covered (omega arith))),
      (λ s. grind arith),
    )
