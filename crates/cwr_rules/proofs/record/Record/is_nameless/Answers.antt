use Rattle.std.proofs.Common.{rules}
use Rattle.cwr_rules.proofs.record.Record.is_nameless.Goals as goal

pub returns-in-Spu : goal.returns-in-Spu
returns-in-Spu c = search rules
