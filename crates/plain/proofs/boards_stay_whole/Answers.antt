-- Boards stay whole, whatever the calls, as shown. Assumes nothing.
use Rattle.plain.proofs.boards_stay_whole.Goals as goal
use Rattle.plain.proofs.Sanity.{boards_stay_whole}

pub returns : goal.returns
returns c = boards_stay_whole
