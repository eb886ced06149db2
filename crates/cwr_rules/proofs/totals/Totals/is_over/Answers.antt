use Rattle.std.proofs.Common.{rules}
use Rattle.cwr_rules.proofs.totals.Totals.is_over.Goals as goal

pub returns-else-self-gt-MAX_WHOLE-2 : goal.returns-else-self-gt-MAX_WHOLE-2
returns-else-self-gt-MAX_WHOLE-2 c = search rules
