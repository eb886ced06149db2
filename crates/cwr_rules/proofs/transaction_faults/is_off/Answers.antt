use Rattle.std.proofs.Common.{rules}
use Rattle.cwr_rules.proofs.transaction_faults.is_off.Goals as goal

pub returns-after-total-ge-MIN_WHOLE : goal.returns-after-total-ge-MIN_WHOLE
returns-after-total-ge-MIN_WHOLE c = search rules
