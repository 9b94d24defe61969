-- The laws hold of every use, as the theorem has it. Assumes nothing.
use Rattle.plain.proofs.every_use_is_lawful.Goals as goal
use Rattle.plain.proofs.Theorem.{every_use_is_lawful}

pub returns : goal.returns
returns c = every_use_is_lawful
