use Rattle.atomic_file.proofs.keeping.replace.Goals as goal

pub returns-clause-kept : goal.returns-clause-kept
returns-clause-kept g c = rw c.new.ensures at c.replace_chunks.ensures.kept
