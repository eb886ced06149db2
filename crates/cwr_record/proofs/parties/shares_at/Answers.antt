use Rattle.std.proofs.Common.{rules}
use Rattle.cwr_record.proofs.parties.shares_at.Goals as goal

pub returns : goal.returns
returns c = search rules
