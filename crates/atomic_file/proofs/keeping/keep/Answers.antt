use Rattle.atomic_file.proofs.keeping.keep.Goals as goal

pub returns-clause-kept : goal.returns-clause-kept
returns-clause-kept g c = rw c.new.ensures at c.keep_chunks.ensures.kept
