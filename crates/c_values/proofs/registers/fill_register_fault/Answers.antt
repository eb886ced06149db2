use Rattle.std.proofs.Common.{rules}
use Rattle.c_values.proofs.registers.fill_register_fault.Goals as goal

pub returns-in-Fault-clause-same : goal.returns-in-Fault-clause-same
returns-in-Fault-clause-same c = search rules

pub returns-in-Fault-clause-status : goal.returns-in-Fault-clause-status
returns-in-Fault-clause-status c = search rules

pub returns-in-Fault-clause-fault : goal.returns-in-Fault-clause-fault
returns-in-Fault-clause-fault c = λ text refused told. rw c.in-Fault.is at refused
