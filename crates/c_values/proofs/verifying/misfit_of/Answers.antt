use Rattle.std.proofs.Common.{ap, sym}
use Rattle.c_values.specs.Verified.{misfit_of}
use Rattle.c_values.proofs.verifying.misfit_of.Goals as goal

pub returns-in-Transaction : goal.returns-in-Transaction
returns-in-Transaction c = sym (ap misfit_of c.in-Transaction.is)
