use Rattle.std.proofs.Common.{rules}
use Rattle.cwr_grammar.proofs.role.is_dated.Goals as goal

pub returns-then-created_at : goal.returns-then-created_at
returns-then-created_at c = search rules
