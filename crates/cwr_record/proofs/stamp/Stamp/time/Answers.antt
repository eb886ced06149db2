use Rattle.std.proofs.Common.{rules}
use Rattle.cwr_record.proofs.stamp.Stamp.time.Goals as goal

pub returns : goal.returns
returns c = search rules
