use Rattle.std.proofs.Common.{refl, rules}
use Rattle.purvilgo_c.proofs.checking.purvilgo_check.Goals as goal

pub returns-in-Ok-clause-told : goal.returns-in-Ok-clause-told
returns-in-Ok-clause-told c = search rules

pub returns-in-Err-clause-same : goal.returns-in-Err-clause-same
returns-in-Err-clause-same c = λ memory. (refl, refl, refl)
