use Rattle.register_store.proofs.keeping.RegisterAnyChunks.advance.Goals as goal

pub returns-clause-text : goal.returns-clause-text
returns-clause-text g c = c.advance.ensures.text
