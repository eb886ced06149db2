use Rattle.std.proofs.Common.{rules}
use Rattle.atomic_file.proofs.names.FileNames.draft.Goals as goal

pub returns : goal.returns
returns c = search rules
