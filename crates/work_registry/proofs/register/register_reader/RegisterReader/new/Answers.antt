use Rattle.std.proofs.Common.{ap}
use Rattle.work_registry.specs.RegisterReader.{LinesState}
use Rattle.work_registry.proofs.register.register_reader.RegisterReader.new.Goals as goal

pub new-requires-clause-least : goal.new-requires-clause-least
new-requires-clause-least g c = c.requires.least

pub invariant_of-result : goal.invariant_of-result
invariant_of-result g c = ap (λ (s : LinesState). s.keeps) c.new.ensures

pub returns : goal.returns
returns g c = ap (λ (s : LinesState). s.read) c.new.ensures
