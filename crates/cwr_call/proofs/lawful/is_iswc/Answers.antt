use Rattle.std.proofs.Common.{sym, ap}
use Rattle.cwr_call.specs.Lawful.{is_iswc}
use Rattle.cwr_call.proofs.lawful.is_iswc.Goals as goal

pub returns-in-None : goal.returns-in-None
returns-in-None c = ap is_iswc (sym c.in-None.is)

pub returns-in-Some : goal.returns-in-Some
returns-in-Some c = ap is_iswc (sym c.in-Some.is)
