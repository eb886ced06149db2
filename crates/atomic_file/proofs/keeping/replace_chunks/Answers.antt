use Rattle.std.proofs.Common.{rules}
use Rattle.atomic_file.proofs.keeping.replace_chunks.Goals as goal

pub returns-in-Ok-place_draft-clause-kept : goal.returns-in-Ok-place_draft-clause-kept
returns-in-Ok-place_draft-clause-kept g c = search rules

pub returns-in-Err-clause-after : goal.returns-in-Err-clause-after
returns-in-Err-clause-after g c = search rules
