use Rattle.std.proofs.Common.{rules}
use Rattle.cwr_grammar.proofs.span.take_line.Goals as goal

pub returns-in-TransactionHeader-Some-default-default-clause-next : goal.returns-in-TransactionHeader-Some-default-default-clause-next
returns-in-TransactionHeader-Some-default-default-clause-next g c = search rules
