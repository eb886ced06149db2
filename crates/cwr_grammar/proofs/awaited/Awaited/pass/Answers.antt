use Rattle.std.proofs.Common.{rules}
use Rattle.cwr_grammar.proofs.awaited.Awaited.pass.Goals as goal

pub returns-in-Detail : goal.returns-in-Detail
returns-in-Detail c = search rules

pub returns-in-TransactionHeader : goal.returns-in-TransactionHeader
returns-in-TransactionHeader c = search rules
