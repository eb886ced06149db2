use Rattle.std.proofs.Common.{◌∙◌, ap, sym, rules}
use Rattle.work_registry.specs.RegisterInChunks.{ChunksState}
use Rattle.work_registry.proofs.register.chunks.RegisterChunks.advance.Goals as goal

pub fill-requires-clause-empty : goal.fill-requires-clause-empty
fill-requires-clause-empty g c = search rules

pub returns-clause-text : goal.returns-clause-text
returns-clause-text g c = sym (ap (λ (s : ChunksState). s.left) c.self.view_is) ∙ c.fill.ensures.text
