-- Who answers as the plain board does keeps the laws, as shown. Assumes nothing.
use Rattle.plain.proofs.as_plain_is_faithful.Goals as goal
use Rattle.plain.proofs.Theorem.{as_plain_is_faithful}

pub returns : goal.returns
returns c = as_plain_is_faithful
