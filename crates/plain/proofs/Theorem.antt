-- Every use of a board is lawful, at every stop.
-- And what a running board has to show of one call, so that every use goes on lawfully. Assumes nothing.
use Rattle.std.proofs.Common.{◌≡◌, ℕ, ◌⊎◌, [], ◌∷◌, ◌++◌, refl, ◌∙◌}
use Rattle.record.specs.Making.{Making}
use Rattle.plain.specs.Boards.{Board, Area}
use Rattle.plain.specs.Calls.{Call, Answer}
use Rattle.plain.specs.Plain.{make, result}
use Rattle.plain.specs.History.{History, Run}
use Rattle.plain.specs.Laws.{Always, EveryUseIsLawful}
use Rattle.plain.specs.Faithful.{LawfulUse, FaithfulMaking, Faithful, AsPlainIsFaithful}
use Rattle.plain.proofs.Uplink.{follows}
use Rattle.plain.proofs.States.{state, sightings_agree, walks_are_short, walks_are_complete, walks_are_honest}
use Rattle.plain.proofs.Echo.{waits_end_in_time}
use Rattle.plain.proofs.Settled.{counts_settle}

-- ---- a run up to an earlier stop is a run

record Stop (making : Making) (h : History) (size : ℕ) : Type 0 where
  board : Board
  area : Area
  run : Run (result making) h board area
  sized : board.size ≡ size

stop : (making : Making) (later sooner : History) {h : History} {b : Board} {a : Area} → Run (result making) h b a → h ≡ later ++ sooner → Stop making sooner b.size
stop making [] sooner {h} {b} {a} run e = record { board = b; area = a; run = rw e at run; sized = refl }
stop making (x ∷ later) sooner (Run.made m n s area made) e = cc
stop making (x ∷ later) sooner (Run.called {b = b} {area = a} run c) e =
    let s = stop making later sooner run (cc) in
    record { board = s.board; area = s.area; run = s.run; sized = cc ((follows (state making run).fine a making c).sized) }

-- what holds at the end of every run holds at every stop of one
always : (Law : History → Type 0) (making : Making) {h : History} {b : Board} {a : Area} → ((g : History) (d : Board) (z : Area) → d.size ≡ b.size → Run (result making) g d z → Law g) → Run (result making) h b a → Always Law h
always Law making law run later sooner e = let s = stop making later sooner run e in law sooner s.board s.area s.sized s.run

pub every_use_is_lawful : EveryUseIsLawful
every_use_is_lawful making h b area run = record {
  sightings_agree = always _ making (λ g d z e r. sightings_agree making r) run;
  walks_are_short = always _ making (λ g d z e r. rw e at (walks_are_short making r)) run;
  walks_are_complete = always _ making (λ g d z e r. walks_are_complete making r) run;
  walks_are_honest = always _ making (λ g d z e r. walks_are_honest making r) run;
  waits_end_in_time = always _ making (λ g d z e r. waits_end_in_time making r) run;
  counts_settle = counts_settle making run;
}

-- ---- running boards

lawful_use : (making : Making) {h : History} {b : Board} {area : Area} → Run (result making) h b area → LawfulUse making h b area
lawful_use making run = record { run = run; lawful = every_use_is_lawful making _ _ _ run }

pub faithful_making : {m n s : ℕ} {answer : Board ⊎ ℕ} → make m n s ≡ answer → FaithfulMaking m n s answer
faithful_making {m} {n} {s} e = record { as_plain = e; starts = λ b q making area. lawful_use making (Run.made m n s area (e ∙ q)) }

pub faithful : {making : Making} {b : Board} {area : Area} {c : Call} {answer : Answer} {b' : Board} {area' : Area} →
    result making b area c ≡ record { answer = answer; board = b'; area = area' } → Faithful making b area c answer b' area'
faithful {making} {c = c} e = record {
  as_plain = e;
  goes_on = λ h run. lawful_use making (rw e at (Run.called run c));
}

pub as_plain_is_faithful : AsPlainIsFaithful
as_plain_is_faithful = record { making = λ m n s answer e. faithful_making e; calls = λ making b area c answer b' area' e. faithful e }
