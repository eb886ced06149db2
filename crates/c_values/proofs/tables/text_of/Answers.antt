use Rattle.std.proofs.Common.{rules}
use Rattle.c_values.proofs.tables.text_of.Goals as goal

pub returns-in-Claims : goal.returns-in-Claims
returns-in-Claims c = search rules

pub returns-in-Works : goal.returns-in-Works
returns-in-Works c = search rules

pub returns-in-History : goal.returns-in-History
returns-in-History c = search rules
