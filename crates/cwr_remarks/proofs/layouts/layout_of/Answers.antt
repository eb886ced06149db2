use Rattle.std.proofs.Common.{rules}
use Rattle.cwr_remarks.proofs.layouts.layout_of.Goals as goal

pub returns : goal.returns
returns c = search rules
