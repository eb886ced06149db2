use Rattle.std.proofs.Common.{rules}
use Rattle.cwr_verify.proofs.answering.send.Goals as goal

pub returns-in-Ok-clause-all : goal.returns-in-Ok-clause-all
returns-in-Ok-clause-all g c = search rules
