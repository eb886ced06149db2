use Rattle.std.proofs.Common.{rules}
use Rattle.atomic_file.proofs.names.FileNames.directory.Goals as goal

pub returns : goal.returns
returns c = search rules
