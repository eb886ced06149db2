use Rattle.std.proofs.Common.{rules}
use Rattle.cwr_record.proofs.columns.field_at.Goals as goal

pub cut-requires-clause-start : goal.cut-requires-clause-start
cut-requires-clause-start c = search rules

pub returns-clause-value : goal.returns-clause-value
returns-clause-value c = search rules
