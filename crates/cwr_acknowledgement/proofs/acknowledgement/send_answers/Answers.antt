use Rattle.std.proofs.Common.{rules}
use Rattle.cwr_acknowledgement.proofs.acknowledgement.send_answers.Goals as goal

pub returns-clause-unwritten : goal.returns-clause-unwritten
returns-clause-unwritten g c = search rules

pub returns-clause-first : goal.returns-clause-first
returns-clause-first g c = search rules
