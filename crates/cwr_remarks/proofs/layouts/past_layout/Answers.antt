use Rattle.std.proofs.Common.{rules}
use Rattle.cwr_remarks.proofs.layouts.past_layout.Goals as goal

pub returns : goal.returns
returns c = search rules
