use Rattle.std.proofs.Common.{rules}
use Rattle.cwr_remarks.proofs.front.other_sender.Goals as goal

pub returns : goal.returns
returns c = search rules
