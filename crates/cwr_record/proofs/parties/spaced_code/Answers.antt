use Rattle.std.proofs.Common.{rules}
use Rattle.cwr_record.proofs.parties.spaced_code.Goals as goal

pub returns : goal.returns
returns c = search rules
