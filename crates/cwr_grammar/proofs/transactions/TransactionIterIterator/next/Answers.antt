use Rattle.std.proofs.Common.{rules}
use Rattle.cwr_grammar.proofs.transactions.TransactionIterIterator.next.Goals as goal

pub returns-clause-steps : goal.returns-clause-steps
returns-clause-steps c = search rules
