use Rattle.std.proofs.Common.{rules}
use Rattle.cwr_record.proofs.record_type.type_of.Goals as goal

pub returns-then-are_same-2 : goal.returns-then-are_same-2
returns-then-are_same-2 c = search rules
