use Rattle.std.proofs.Common.{◌∙◌, ap}
use Rattle.work_registry.specs.RegisterInChunks.{ChunksState}
use Rattle.work_registry.proofs.register.chunks.RegisterChunks.chunk.Goals as goal

pub returns : goal.returns
returns g c = c.as_slice.ensures.value ∙ ap (λ (s : ChunksState). s.held) c.self.view_is
