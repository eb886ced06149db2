use Rattle.std.proofs.Common.{rules}
use Rattle.cwr_grammar.proofs.transactions.RawTransaction.group.Goals as goal

pub returns : goal.returns
returns c = search rules
