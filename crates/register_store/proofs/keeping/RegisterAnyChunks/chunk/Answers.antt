use Rattle.register_store.proofs.keeping.RegisterAnyChunks.chunk.Goals as goal

pub returns : goal.returns
returns g c = c.chunk.ensures
