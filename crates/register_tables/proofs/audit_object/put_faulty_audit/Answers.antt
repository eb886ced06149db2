use Rattle.std.proofs.Common.{arith}
use Rattle.std.proofs.lemmas.Grind.{common_steps}
use Rattle.register_tables.proofs.audit_object.put_faulty_audit.Goals as goal

pub returns : goal.returns
returns g c = grind (arith, common_steps)
