use Rattle.std.proofs.Common.{rules}
use Rattle.c_values.proofs.tables.write_table.Goals as goal

pub returns-in-Ok-text_of-clause-told : goal.returns-in-Ok-text_of-clause-told
returns-in-Ok-text_of-clause-told c = search rules
