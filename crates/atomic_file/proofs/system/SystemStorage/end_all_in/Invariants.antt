use Rattle.std.proofs.Common.{◌≡◌}
use Rattle.atomic_file.proofs.system.SystemStorage.end_all_in.Given as goal

-- no call for the file failed
abbrev pub invariant-loop-at : goal.invariant-loop-at
invariant-loop-at g l = l.self.failed ≡ l.fn.self.failed
