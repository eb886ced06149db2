use Rattle.std.proofs.Common.{rules}
use Rattle.cwr_remarks.proofs.front.begins_with_mark.Goals as goal

pub returns : goal.returns
returns c = search rules
