use Rattle.std.proofs.Common.{None}
use Rattle.work_registry.proofs.register.line_reader.LineReader.new.Goals as goal

pub returns : goal.returns
returns g c = λ i. record { keeps = c.args.keeps; read = record { limit = c.args.limit; count = None; history = c.new.ensures i } }
