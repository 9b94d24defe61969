-- What the scheme below a board was told is a history of its own (Echo), and the scheme's law of waits holds of it.
-- So it holds of the board: waits end in time. Assumes nothing.
use Rattle.std.proofs.Common.{◌≡◌, ℕ, not, ◌||◌, ◌↔◌, [], ◌∷◌, ◌++◌, sym, refl, ap, subst}
use mathlib.Core.Logic.Iff
use Rattle.std.proofs.lemmas.Bool.{cond_both}
use Rattle.scheme.specs.declared.interface.Poll.{Poll}
use Rattle.scheme.specs.declared.interface.Poll.TheVariants.{NoWait, NotYet, Over}
use Rattle.scheme.specs.declared.script.Call.TheVariants.{Begin}
use Rattle.scheme.specs.declared.script.Answer.{Answer as ToldAnswer}
use Rattle.scheme.specs.declared.script.Answer.TheVariants.{Accepted, Polled}
use Rattle.scheme.specs.Meaning.{Meaning}
use Rattle.scheme.specs.Polls.{on_poll}
use Rattle.scheme.specs.Histories.{Any, Since}
use Rattle.scheme.specs.Histories as below
use Rattle.scheme.proofs.Histories.{Runs, poll_right}
use Rattle.record.specs.Making.{Making}
use Rattle.plain.specs.Pools.{is_empty, needs_begin}
use Rattle.plain.specs.Boards.{Board, Area}
use Rattle.plain.specs.Calls.{Call}
use Rattle.plain.specs.Plain.{Result, tended, result}
use Rattle.plain.specs.History.{Moment, moment, History, Run}
use Rattle.plain.specs.Sightings.{Leaves, Visiting}
use Rattle.plain.specs.Waits.{Begins, FindsOver, AllGone, WaitsEndInTime}
use Rattle.plain.proofs.Checks.{made_of}
use Rattle.plain.proofs.Events.{Silent, Echoes, Did, did}
use Rattle.plain.proofs.States.{state}

-- s has the moments of h that are anything to the scheme
pub data Echo : History → below.History → Type 0 where
  nothing : Echo [] []
  silent : {m : Moment} {h : History} {s : below.History} → Silent m → Echo h s → Echo (m ∷ h) s
  heard : {m : Moment} {x : below.Moment} {h : History} {s : below.History} → Echoes m x → Echo h s → Echo (m ∷ h) (x ∷ s)

visiting_below : (r : ℕ) {h : History} {s : below.History} → Echo h s → Visiting r h → below.Visiting r s
visiting_below r nothing v = elim v [ ]
visiting_below r (silent q o) (Since.starts e) = absurd (q.no_enter r e)
visiting_below r (silent q o) (Since.goes_on n v) = visiting_below r o v
visiting_below r (heard q o) (Since.starts e) = Since.starts ((q.enters r).0 e)
visiting_below r (heard q o) (Since.goes_on n v) = Since.goes_on (λ l. n ((q.leaves r).1 l)) (visiting_below r o v)

visiting_above : (r : ℕ) {h : History} {s : below.History} → Echo h s → below.Visiting r s → Visiting r h
visiting_above r nothing v = elim v [ ]
visiting_above r (silent q o) v = Since.goes_on (q.no_leave r) (visiting_above r o v)
visiting_above r (heard q o) (Since.starts e) = Since.starts ((q.enters r).1 e)
visiting_above r (heard q o) (Since.goes_on n v) = Since.goes_on (λ l. n ((q.leaves r).0 l)) (visiting_above r o v)

-- P is of the board's moments what Q is of the scheme's
module _ (P : Moment → Type 0) (Q : below.Moment → Type 0) (none : (m : Moment) → Silent m → ¬ (P m)) (same : (m : Moment) (x : below.Moment) → Echoes m x → P m ↔ Q x) where
  any_below : {h : History} {s : below.History} → Echo h s → Any P h → Any Q s
  any_below nothing a = elim a [ ]
  any_below (silent q o) (Any.here p) = absurd (none _ q p)
  any_below (silent q o) (Any.there a) = any_below o a
  any_below (heard q o) (Any.here p) = Any.here ((same _ _ q).0 p)
  any_below (heard q o) (Any.there a) = Any.there (any_below o a)

  any_above : {h : History} {s : below.History} → Echo h s → Any Q s → Any P h
  any_above nothing a = elim a [ ]
  any_above (silent q o) a = Any.there (any_above o a)
  any_above (heard q o) (Any.here p) = Any.here ((same _ _ q).1 p)
  any_above (heard q o) (Any.there a) = Any.there (any_above o a)

left_below : (r : ℕ) {h : History} {s : below.History} → Echo h s → Any (Leaves r) h → Any (below.Leaves r) s
left_below r = any_below (Leaves r) (below.Leaves r) (λ m q. q.no_leave r) (λ m x q. q.leaves r)

left_above : (r : ℕ) {h : History} {s : below.History} → Echo h s → Any (below.Leaves r) s → Any (Leaves r) h
left_above r = any_above (Leaves r) (below.Leaves r) (λ m q. q.no_leave r) (λ m x q. q.leaves r)

over_above : {h : History} {s : below.History} → Echo h s → Any below.FindsOver s → Any FindsOver h
over_above = any_above FindsOver below.FindsOver (λ m q. q.no_over) (λ m x q. q.overs)

-- all are gone for the scheme who are for the board
all_gone_same : {newer older : History} {newer' older' : below.History} → Echo newer newer' → Echo older older' → below.AllGone newer' older' ↔ AllGone newer older
all_gone_same o p = ((λ all r v. left_above r o (all r (visiting_below r p v))), (λ all r v. left_below r o (all r (visiting_above r p v))))

-- the scheme's history is cut where a wait began
record Cut (newer older : History) (s : below.History) : Type 0 where
  newer' : below.History
  older' : below.History
  splits : s ≡ newer' ++ below.moment Begin Accepted ∷ older'
  echo_newer : Echo newer newer'
  echo_older : Echo older older'

cut_at : (b : Moment) (newer older : History) {s : below.History} → Echo (newer ++ b ∷ older) s → Begins b → Cut newer older s
cut_at b [] older (silent q o) k = absurd (q.no_begin k)
cut_at b [] older (heard {s = s} q o) k =
    record { newer' = []; older' = s; splits = ap (λ (x : below.Moment). x ∷ s) (q.begins.0 k); echo_newer = nothing; echo_older = o }
cut_at b (m ∷ newer) older (silent q o) k =
    let c = cut_at b newer older o k in
    record { newer' = c.newer'; older' = c.older'; splits = c.splits; echo_newer = silent q c.echo_newer; echo_older = c.echo_older }
cut_at b (m ∷ newer) older (heard {x = x} q o) k =
    let c = cut_at b newer older o k in
    record { newer' = x ∷ c.newer'; older' = c.older'; splits = ap (λ (t : below.History). x ∷ t) c.splits; echo_newer = heard q c.echo_newer; echo_older = c.echo_older }

-- ---- every run

record Heard (h : History) (w : Meaning) : Type 0 where
  history : below.History
  runs : Runs history w
  echo : Echo h history

hears : {h : History} {b : Board} {m : Moment} → Heard h b.who → Did b m → Heard (m ∷ h) m.board.who
hears o (Did.nothing t n c) = record { history = o.history; runs = rw t.who o.runs; echo = silent t.silent o.echo }
hears o (Did.visit c t nb no_over n ch) = record { history = _; runs = rw t.who (Runs.called o.runs c); echo = heard t.echoes o.echo }
hears o (Did.removal x t r c) = record { history = o.history; runs = rw t.who o.runs; echo = silent t.silent o.echo }
hears o (Did.wait_begins t k w c) = record { history = _; runs = rw t.who (Runs.called o.runs _); echo = heard t.echoes o.echo }
hears o (Did.wait_ends t k c) = record { history = _; runs = rw t.who (Runs.called o.runs _); echo = heard t.echoes o.echo }

heard_by : (making : Making) {h : History} {b : Board} {a : Area} → Run (result making) h b a → Heard h b.who
heard_by making (Run.made m n s area made) = record { history = []; runs = subst (λ (b : Board). Runs [] b.who) (made_of m n s made).0 Runs.new; echo = nothing }
heard_by making (Run.called {b = b} {area = a} run c) = hears (heard_by making run) (did (state making run).fine a making c)

-- ---- the law

-- tend finds the wait over when the poll says so
tend_finds : (b : Board) (a : Area) (said : Poll) → FindsOver (moment Call.tend (tended b a said)) ↔ (◌≡◌ {A = ToldAnswer} (Polled said) (Polled Over))
tend_finds b a NoWait = cond_both (not (is_empty b.pool.due) || needs_begin b.pool.move) _ _ (λ (res : Result). FindsOver (moment Call.tend res) ↔ (◌≡◌ {A = ToldAnswer} (Polled NoWait) (Polled Over)))
    (λ g. ((λ e. cc), (λ e. cc)))
    (λ g. ((λ e. cc), (λ e. cc)))
tend_finds b a NotYet = ((λ e. cc), (λ e. cc))
tend_finds b a Over = ((λ e. refl), (λ e. record { count = _; asked = refl; said = refl }))

module _ (making : Making) {b : Board} {a : Area} (start : Moment) (newer older : History) where
  tend_in_time : Run (result making) (newer ++ start ∷ older) b a → Begins start → ¬ (Any FindsOver newer) → FindsOver (moment Call.tend (result making b a Call.tend)) ↔ AllGone newer older
  tend_in_time run k not_over =
      let o = heard_by making run in
      let c = cut_at start newer older o.echo k in
      Iff.trans (tend_finds b a (on_poll b.who).answer)
      (Iff.trans ((poll_right o.runs).over c.newer' c.older' (record { begun = c.splits; not_over = λ v. not_over (over_above c.echo_newer v) }))
      (all_gone_same c.echo_newer c.echo_older))

pub waits_end_in_time : (making : Making) {h : History} {b : Board} {a : Area} → Run (result making) h b a → WaitsEndInTime h
waits_end_in_time making (Run.made m n s area made) m₁ start newer older e t k not_over = cc
waits_end_in_time making (Run.called {h = h} {b = b} {area = a} run c) m₁ start newer older e t k not_over =
    let here : moment c (result making b a c) ≡ m₁ = cc in
    let call : c ≡ Call.tend = cc in
    let before : h ≡ newer ++ start ∷ older = cc in
    rw here at (subst (λ (d : Call). FindsOver (moment d (result making b a d)) ↔ AllGone newer older) (sym call)
    (tend_in_time making start newer older (rw before at run) k not_over))
