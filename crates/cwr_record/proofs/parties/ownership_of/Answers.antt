use Rattle.std.proofs.Common.{rules}
use Rattle.cwr_record.proofs.parties.ownership_of.Goals as goal

pub returns-in-Spu : goal.returns-in-Spu
returns-in-Spu c = search rules
