-- The refusals of every call ascend, as shown. Assumes nothing.
use Rattle.plain.proofs.refusals_ascend.Goals as goal
use Rattle.plain.proofs.Sanity.{refusals_ascend}

pub returns : goal.returns
returns c = refusals_ascend
