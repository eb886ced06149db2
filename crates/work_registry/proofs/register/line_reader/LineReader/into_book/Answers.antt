use Rattle.std.proofs.Common.{◌∙◌, ap}
use Rattle.work_registry.specs.RegisterReader.{LinesState}
use Rattle.work_registry.proofs.Audited.{counted_within}
use Rattle.work_registry.proofs.register.line_reader.LineReader.into_book.Goals as goal

pub opening_of-requires-clause-same : goal.opening_of-requires-clause-same
opening_of-requires-clause-same g c = c.self.invariant.1 (ap (λ (s : LinesState). s.keeps) c.self.view_is ∙ c.requires)

pub opening_of-requires-clause-opening : goal.opening_of-requires-clause-opening
opening_of-requires-clause-opening g c = c.self.invariant.0.opening

pub opening_of-requires-clause-fits : goal.opening_of-requires-clause-fits
opening_of-requires-clause-fits g c = counted_within c.self.inside.limit c.self.inside.count c.self.inside.history_index c.self.invariant.0.counted

pub opening_of-requires-clause-least : goal.opening_of-requires-clause-least
opening_of-requires-clause-least g c = c.self.invariant.0.least

pub opening_of-requires-clause-most : goal.opening_of-requires-clause-most
opening_of-requires-clause-most g c = c.self.invariant.0.most

pub returns-clause-value : goal.returns-clause-value
returns-clause-value g c = rw (← c.self.view_is) c.opening_of.ensures

pub returns-clause-opening : goal.returns-clause-opening
returns-clause-opening g c = rw (← c.self.view_is) c.self.invariant.0.opening
