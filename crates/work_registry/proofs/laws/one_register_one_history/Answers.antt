use Rattle.std.proofs.Common.{arith}
use Rattle.work_registry.proofs.RegisterLaws.{one_history}
use Rattle.work_registry.proofs.laws.one_register_one_history.Goals as goal

pub returns : goal.returns
returns c = λ one other few few' whole whole' same. one_history one other (omega (arith, few)) (omega (arith, few')) whole whole' same
