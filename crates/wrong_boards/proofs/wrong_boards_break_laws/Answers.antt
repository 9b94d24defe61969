-- Each wrong board breaks a law, by the use that shows it. Assumes nothing.
use Rattle.wrong_boards.proofs.wrong_boards_break_laws.Goals as goal
use Rattle.wrong_boards.proofs.Broken.{wrong_boards_break_laws}

pub returns : goal.returns
returns c = wrong_boards_break_laws
