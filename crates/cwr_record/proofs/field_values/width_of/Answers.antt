use Rattle.std.proofs.Common.{rules}
use Rattle.cwr_record.proofs.field_values.width_of.Goals as goal

pub returns-in-Day : goal.returns-in-Day
returns-in-Day c = search rules
