-- What each call does as far as visits, removals and waits go: to the scheme's meaning, and to the due and the covered chain (did).
-- It is told in the scheme's own words, by a call of the scheme. Assumes nothing.
use Rattle.std.specs.Prelude.{◌==◌}
use Rattle.std.proofs.Common.{◌≡◌, ℕ, Bool, true, false, not, ◌||◌, ◌↔◌, List, [], ◌∷◌, refl, ap, arith}
use Rattle.std.proofs.lemmas.Bool.{cond_both}
use Rattle.scheme.specs.declared.interface.Poll.{Poll}
use Rattle.scheme.specs.declared.interface.Poll.TheVariants.{NoWait, NotYet, Over}
use Rattle.scheme.specs.declared.script.Call.TheVariants.{Enter, Leave, Begin}
use Rattle.scheme.specs.declared.script.Call.TheVariants.{Poll as Ask}
use Rattle.scheme.specs.declared.script.Call.{Call as ToldCall}
use Rattle.scheme.specs.declared.script.Answer.{Answer as ToldAnswer}
use Rattle.scheme.specs.declared.script.Answer.TheVariants.{Accepted, Polled}
use Rattle.scheme.specs.Meaning.{may_enter}
use Rattle.scheme.specs.Polls.{on_poll}
use Rattle.scheme.specs.Scripts.{told, answer_to, after_call}
use Rattle.scheme.specs.Histories as below
use Rattle.record.specs.Making.{Making}
use Rattle.plain.specs.Pools.{Pool, is_empty, needs_begin}
use Rattle.plain.specs.Boards.{Board, Area, is_wanted}
use Rattle.plain.specs.Calls.{Call, Answer}
use Rattle.plain.specs.Refusals.{checks}
use Rattle.plain.specs.Plain.{Result, accepted, result, tended, stepped, unchanged}
use Rattle.plain.specs.History.{Moment, moment}
use Rattle.plain.specs.Sightings.{Enters, Leaves}
use Rattle.plain.specs.Waits.{Removes, Begins, FindsOver}
use Rattle.plain.proofs.Checks.{Passed, checked_both}
use Rattle.plain.proofs.Follows.{Fine}

-- no visit and no wait starts or ends by the moment
pub record Silent (m : Moment) : Type 0 where
  pub no_enter : (r : ℕ) → ¬ (Enters r m)
  pub no_leave : (r : ℕ) → ¬ (Leaves r m)
  pub no_begin : ¬ (Begins m)
  pub no_over : ¬ (FindsOver m)

-- the moment is for the board what x is for its scheme
pub record Echoes (m : Moment) (x : below.Moment) : Type 0 where
  pub enters : (r : ℕ) → Enters r m ↔ below.Enters r x
  pub leaves : (r : ℕ) → Leaves r m ↔ below.Leaves r x
  pub begins : Begins m ↔ below.Begins x
  pub overs : FindsOver m ↔ below.FindsOver x

-- the scheme is called by c, and the moment is for the board what this is for the scheme
pub record Tells (b : Board) (m : Moment) (c : ToldCall) : Type 0 where
  pub echoes : Echoes m (below.moment c (answer_to c b.who))
  pub who : m.board.who ≡ after_call c b.who

pub record NotTold (b : Board) (m : Moment) : Type 0 where
  pub silent : Silent m
  pub who : m.board.who ≡ b.who

-- the due and the covered chain are left as these
pub record Chains (m : Moment) (xs ys : List ℕ) : Type 0 where
  pub due : m.board.pool.due ≡ xs
  pub covered : m.board.pool.covered ≡ ys

-- the moment m, which found the board b
pub data Did (b : Board) (m : Moment) : Type 0 where
  nothing : NotTold b m → ¬ (Removes m) → Chains m b.pool.due b.pool.covered → Did b m
  visit : (c : ToldCall) → Tells b m c → ¬ (Begins m) → ¬ (FindsOver m) → ¬ (Removes m) → Chains m b.pool.due b.pool.covered → Did b m
  removal : (x : ℕ) → NotTold b m → Removes m → Chains m (x ∷ b.pool.due) b.pool.covered → Did b m
  wait_begins : Tells b m Begin → Begins m → b.who.waits ≡ false → Chains m [] b.pool.due → Did b m
  wait_ends : Tells b m Ask → FindsOver m → Chains m b.pool.due [] → Did b m

-- ---- by the call alone, whatever its answer

-- the calls of which the scheme is told
abbrev telling : Call → Bool
telling (Call.enter r) = true
telling (Call.leave r) = true
telling Call.tend = true
telling c = false

-- the calls that remove a node
abbrev pub removing : Call → Bool
removing (Call.swap k v w x y) = true
removing (Call.cut k) = true
removing Call.finish = true
removing c = false

not_told : {b : Board} {m : Moment} → telling m.call ≡ false → m.board.who ≡ b.who → NotTold b m
not_told {b} {m} quiet who = record {
  silent = record {
    no_enter = λ r e. grind arith;
    no_leave = λ r e. grind arith;
    no_begin = λ e. grind arith;
    no_over = λ e. grind arith;
  };
  who = who;
}

pub not_removal : {m : Moment} → removing m.call ≡ false → Removes m → ⊥
not_removal {m} keeps (Removes.by_cut k n s e q) = grind arith
not_removal {m} keeps (Removes.by_swap k v w x y n s e q) = grind arith
not_removal {m} keeps (Removes.by_finish n s e q) = grind arith

-- ---- refused calls

refused_removes_not : {m : Moment} {n k : ℕ} → m.answer ≡ Answer.refused n k → Removes m → ⊥
refused_removes_not a (Removes.by_cut k n s e q) = cc
refused_removes_not a (Removes.by_swap k v w x y n s e q) = cc
refused_removes_not a (Removes.by_finish n s e q) = cc

did_refused : (b : Board) (a : Area) (c : Call) (n k : ℕ) → Did b (moment c (unchanged b a (Answer.refused n k)))
did_refused b a c n k = Did.nothing (record { silent = silent; who = refl }) (refused_removes_not refl) (record { due = refl; covered = refl })
  where
    silent : Silent (moment c (unchanged b a (Answer.refused n k)))
    silent = record {
      no_enter = λ r e. cc;
      no_leave = λ r e. cc;
      no_begin = λ e. cc;
      no_over = λ e. cc;
    }

-- ---- visits

enter_echoes : {r : ℕ} {d : Board} {a : Area} → Echoes (record { call = Call.enter r; answer = Answer.done; board = d; area = a }) (below.moment (Enter r) Accepted)
enter_echoes = record {
  enters = λ u. grind arith;
  leaves = λ u. grind arith;
  begins = grind arith;
  overs = grind arith;
}

leave_echoes : {r : ℕ} {d : Board} {a : Area} → Echoes (record { call = Call.leave r; answer = Answer.done; board = d; area = a }) (below.moment (Leave r) Accepted)
leave_echoes = record {
  enters = λ u. grind arith;
  leaves = λ u. grind arith;
  begins = grind arith;
  overs = grind arith;
}

-- ---- waits

begin_echoes : {d : Board} {a : Area} → Echoes (record { call = Call.tend; answer = Answer.begun; board = d; area = a }) (below.moment Begin Accepted)
begin_echoes = record {
  enters = λ u. grind arith;
  leaves = λ u. grind arith;
  begins = grind arith;
  overs = grind arith;
}

over_echoes : {n : ℕ} {d : Board} {a : Area} → Echoes (record { call = Call.tend; answer = Answer.over n; board = d; area = a }) (below.moment Ask (Polled Over))
over_echoes {n} = record {
  enters = λ u. grind arith;
  leaves = λ u. grind arith;
  begins = grind arith;
  overs = ((λ e. refl), (λ e. record { count = n; asked = refl; said = refl }));
}

-- a tend that answers neither begun nor over
tend_silent : {b : Board} {a : Area} (w : Answer) → ¬ (w ≡ Answer.begun) → ((n : ℕ) → ¬ (w ≡ Answer.over n)) → Silent (moment Call.tend (unchanged b a w))
tend_silent w nb no_over = record {
  no_enter = λ r e. cc;
  no_leave = λ r e. cc;
  no_begin = λ e. nb e.1;
  no_over = λ e. grind arith;
}

module _ {b : Board} {stage rank : ℕ → ℕ} (f : Fine b stage rank) (a : Area) (making : Making) where
  answered : {m : Moment} {c : ToldCall} {w : ToldAnswer} → Echoes m (below.moment c w) → answer_to c b.who ≡ w → Echoes m (below.moment c (answer_to c b.who))
  answered {m} {c} o e = rw e o

  tend_did : (said : Poll) → (on_poll b.who).answer ≡ said → (said ≡ NoWait → b.who.waits ≡ false) → Did b (moment Call.tend (tended b a said))
  tend_did NoWait e shut = cond_both (not (is_empty b.pool.due) || needs_begin b.pool.move) _ _ (λ (res : Result). Did b (moment Call.tend res))
      (λ g. Did.wait_begins (record { echoes = answered begin_echoes (ap (λ (w : Bool). told (not w)) (shut refl)); who = refl }) (refl, refl) (shut refl) (record { due = refl; covered = refl }))
      (λ g. Did.nothing (record { silent = tend_silent Answer.idle (λ q. cc) (λ n q. cc); who = refl }) (not_removal refl) (record { due = refl; covered = refl }))
  tend_did NotYet e shut = Did.nothing (record { silent = tend_silent Answer.waiting (λ q. cc) (λ n q. cc); who = refl }) (not_removal refl) (record { due = refl; covered = refl })
  tend_did Over e shut = Did.wait_ends (record { echoes = answered over_echoes (ap Polled e); who = refl }) (record { count = _; asked = refl; said = refl }) (record { due = refl; covered = refl })

  no_wait : (said : Poll) → (on_poll b.who).answer ≡ said → said ≡ NoWait → b.who.waits ≡ false
  no_wait said e n = grind arith

  -- a call of which the scheme is not told, and that removes nothing
  quiet : (c : Call) (res : Result) → telling c ≡ false → removing c ≡ false → res.board.who ≡ b.who → res.board.pool.due ≡ b.pool.due → res.board.pool.covered ≡ b.pool.covered → Did b (moment c res)
  quiet c res t n who due covered = Did.nothing (not_told t who) (not_removal n) (record { due = due; covered = covered })

  step_did : (r x : ℕ) → Did b (moment (Call.step r) (stepped b a r x))
  step_did r x = cond_both (x == 0) _ _ (λ (res : Result). Did b (moment (Call.step r) res))
      (λ e. quiet (Call.step r) _ refl refl refl refl refl)
      (λ e. cond_both (is_wanted (b.slots r).walk (b.pool.key x)) _ _ (λ (res : Result). Did b (moment (Call.step r) res))
      (λ w. quiet (Call.step r) _ refl refl refl refl refl)
      (λ w. quiet (Call.step r) _ refl refl refl refl refl))

  visit_did : (c : Call) (res : Result) (t : ToldCall) → Tells b (moment c res) t → (c ≡ Call.tend → ⊥) → removing c ≡ false → res.board.pool ≡ b.pool → Did b (moment c res)
  visit_did c res t tells not_tend n pool = Did.visit t tells (λ e. not_tend e.0) (λ e. not_tend e.asked) (not_removal n) (record { due = ap (λ (q : Pool). q.due) pool; covered = ap (λ (q : Pool). q.covered) pool })

  did_accepted : (c : Call) → Passed (checks making b a c) → Did b (moment c (accepted making b a c))
  did_accepted (Call.enter r) passed =
      let may : may_enter r b.who ≡ true = grind arith in
      visit_did (Call.enter r) _ (Enter r) (record { echoes = answered enter_echoes (ap told may); who = refl }) (λ e. cc) refl refl
  did_accepted (Call.leave r) passed =
      let inside : b.who.inside r ≡ true = grind arith in
      visit_did (Call.leave r) _ (Leave r) (record { echoes = answered leave_echoes (ap told inside); who = refl }) (λ e. cc) refl refl
  did_accepted (Call.step r) passed = step_did r _
  did_accepted (Call.swap k v w x y) passed = Did.removal _ (not_told refl refl) (Removes.by_swap k v w x y _ _ refl refl) (record { due = refl; covered = refl })
  did_accepted (Call.cut k) passed = Did.removal _ (not_told refl refl) (Removes.by_cut k _ _ refl refl) (record { due = refl; covered = refl })
  did_accepted Call.finish passed = Did.removal _ (not_told refl refl) (Removes.by_finish _ _ refl refl) (record { due = refl; covered = refl })
  did_accepted Call.tend passed = tend_did (on_poll b.who).answer refl (no_wait _ refl)
  did_accepted c passed = quiet c _ refl refl refl refl refl

  pub did : (c : Call) → Did b (moment c (result making b a c))
  did c = checked_both (checks making b a c) (accepted making b a c) (λ number field. unchanged b a (Answer.refused number field)) (λ (res : Result). Did b (moment c res))
      (did_accepted c)
      (did_refused b a c)
