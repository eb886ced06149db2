use Rattle.std.proofs.Common.{refl}
use Rattle.cwr_verify.proofs.file_check.other_line.Goals as goal

pub returns : goal.returns
returns c = λ text unlike. (refl, c.line.ensures text unlike)
