use Rattle.std.proofs.Common.{rules}
use Rattle.cwr_grammar.proofs.role.role_at.Goals as goal

pub returns-in-Grh : goal.returns-in-Grh
returns-in-Grh c = search rules
