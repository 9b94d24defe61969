-- Which law each wrong board breaks: a use of it after which the law does not hold. Assumes nothing.
use Rattle.plain.specs.Boards.{Board, Area}
use Rattle.plain.specs.History.{Play, History, Run}
use Rattle.plain.specs.Sightings.{SightingsAgree}
use Rattle.plain.specs.Walks.{WalksAreShort, WalksAreComplete, WalksAreHonest}
use Rattle.plain.specs.Waits.{counts, CountsSettle, WaitsEndInTime}
use Rattle.wrong_boards.specs.Wrong.{never_over, awaits_nobody, frees_due, repeats_stamp, chains_by_link, moves_without_wait, links_to_itself, loses_nodes, never_tells, always_ends}

-- a use of the board, after which the law does not hold
pub record Breaks (play : Play) (Law : Board → History → Type 0) : Type 0 where
  pub history : History
  pub board : Board
  pub area : Area
  pub run : Run play history board area
  pub broken : ¬ (Law board history)

pub record WrongBoardsBreakLaws : Type 0 where
  pub never_over : Breaks never_over (λ b. WaitsEndInTime)
  pub awaits_nobody : Breaks awaits_nobody (λ b. WaitsEndInTime)
  pub never_tells : Breaks never_tells (λ b. WaitsEndInTime)
  pub frees_due : Breaks frees_due (λ b. SightingsAgree)
  pub repeats_stamp : Breaks repeats_stamp (λ b. SightingsAgree)
  pub chains_by_link : Breaks chains_by_link (λ b. WalksAreHonest)
  pub moves_without_wait : Breaks moves_without_wait (λ b. WalksAreComplete)
  pub always_ends : Breaks always_ends (λ b. WalksAreComplete)
  pub links_to_itself : Breaks links_to_itself (λ b. WalksAreShort b.size)
  pub loses_nodes : Breaks loses_nodes (λ b. CountsSettle (counts b))
