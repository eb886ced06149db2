use Rattle.std.proofs.Common.{rules}
use Rattle.atomic_file.proofs.system.SystemStorage.heard.Goals as goal

pub returns-in-Err : goal.returns-in-Err
returns-in-Err g c = search rules
