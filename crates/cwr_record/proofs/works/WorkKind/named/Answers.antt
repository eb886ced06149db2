use Rattle.std.proofs.Common.{rules}
use Rattle.cwr_record.proofs.works.WorkKind.named.Goals as goal

pub returns-then-eq-2 : goal.returns-then-eq-2
returns-then-eq-2 c = search rules
