use Rattle.std.proofs.Common.{rules}
use Rattle.cwr_grammar.proofs.awaited.Awaited.next_kind.Goals as goal

pub returns-clause-role : goal.returns-clause-role
returns-clause-role c = search rules
