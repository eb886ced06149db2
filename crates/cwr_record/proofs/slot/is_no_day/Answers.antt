use Rattle.std.proofs.Common.{rules}
use Rattle.cwr_record.proofs.slot.is_no_day.Goals as goal

pub returns-then-is_blank : goal.returns-then-is_blank
returns-then-is_blank c = search rules

pub returns-else-is_blank : goal.returns-else-is_blank
returns-else-is_blank c = search rules
