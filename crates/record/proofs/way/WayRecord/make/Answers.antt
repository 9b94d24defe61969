use Rattle.std.proofs.Common.{rules}
use Rattle.record.proofs.way.WayRecord.make.Goals as goal

pub returns-in_err-checked-4-clause-gives : goal.returns-in_err-checked-4-clause-gives
returns-in_err-checked-4-clause-gives c = search rules
