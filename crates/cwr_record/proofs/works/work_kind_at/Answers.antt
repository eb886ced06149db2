use Rattle.std.proofs.Common.{rules}
use Rattle.cwr_record.proofs.works.work_kind_at.Goals as goal

pub returns : goal.returns
returns c = search rules
