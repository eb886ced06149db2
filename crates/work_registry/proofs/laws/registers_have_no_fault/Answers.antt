use Rattle.std.proofs.Common.{arith}
use Rattle.work_registry.proofs.RegisterLaws.{no_fault}
use Rattle.work_registry.proofs.laws.registers_have_no_fault.Goals as goal

pub returns : goal.returns
returns c = λ history limit line number is whole few most fault. no_fault limit history line number is whole few (omega (arith, most)) fault
