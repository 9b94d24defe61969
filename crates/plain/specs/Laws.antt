-- What holds at every stop of every use of a board. Assumes nothing.
use Rattle.std.specs.Prelude.{◌≡◌, ℕ, ◌++◌}
use Rattle.record.specs.Making.{Making}
use Rattle.plain.specs.Boards.{Board, Area}
use Rattle.plain.specs.Plain.{result}
use Rattle.plain.specs.History.{History, Run}
use Rattle.plain.specs.Sightings.{SightingsAgree}
use Rattle.plain.specs.Walks.{WalksAreShort, WalksAreComplete, WalksAreHonest}
use Rattle.plain.specs.Waits.{Counts, counts, CountsSettle, WaitsEndInTime}

-- at every stop so far: after each call of the history, and before the first
abbrev pub Always : (History → Type 0) → History → Type 0
Always Law h = (later sooner : History) → h ≡ later ++ sooner → Law sooner

pub record Lawful (size : ℕ) (h : History) (c : Counts) : Type 0 where
  pub sightings_agree : Always SightingsAgree h
  pub walks_are_short : Always (WalksAreShort size) h
  pub walks_are_complete : Always WalksAreComplete h
  pub walks_are_honest : Always WalksAreHonest h
  pub waits_end_in_time : Always WaitsEndInTime h
  pub counts_settle : CountsSettle c h

-- for every kind of record, every board that making accepts, any calls in any order with any arguments
abbrev pub EveryUseIsLawful : Type 0
EveryUseIsLawful = (making : Making) (h : History) (b : Board) (area : Area) → Run (result making) h b area → Lawful b.size h (counts b)
