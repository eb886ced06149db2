use Rattle.std.proofs.Common.{rules}
use Rattle.work_registry.proofs.register.register_reader.RegisterReader.take_lines.Goals as goal

pub returns-clause-read : goal.returns-clause-read
returns-clause-read g c = search rules
