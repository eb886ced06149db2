use Rattle.std.proofs.Common.{rules}
use Rattle.cwr_record.proofs.record_type.packed.Goals as goal

pub returns : goal.returns
returns c = search rules
