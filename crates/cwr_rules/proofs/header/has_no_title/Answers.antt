use Rattle.std.proofs.Common.{rules}
use Rattle.cwr_rules.proofs.header.has_no_title.Goals as goal

pub returns : goal.returns
returns c = search rules
