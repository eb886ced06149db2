use Rattle.work_registry.proofs.register.reading.no_line.Goals as goal

pub returns-then-is_empty-clause-missing : goal.returns-then-is_empty-clause-missing
returns-then-is_empty-clause-missing c = λ _. c.fault.ensures
