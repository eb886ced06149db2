use Rattle.std.proofs.Common.{rules}
use Rattle.cwr_desk.proofs.working.work.Goals as goal

pub returns-clause-marked : goal.returns-clause-marked
returns-clause-marked g c = search rules

pub returns-clause-worked : goal.returns-clause-worked
returns-clause-worked g c = search rules
