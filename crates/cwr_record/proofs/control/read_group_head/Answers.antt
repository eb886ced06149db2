use Rattle.std.proofs.Common.{refl, ap, Ok}
use Rattle.cwr_record.proofs.lemmas.RoundTrip.{read_again, no_fault_again}
use Rattle.cwr_record.proofs.SameRecords.{same_group_head}
use Rattle.cwr_record.specs.Control as table
use Rattle.cwr_record.proofs.control.read_group_head.Goals as goal

pub returns-in_err-check-clause-again : goal.returns-in_err-check-clause-again
returns-in_err-check-clause-again c =
    λ x whole e. absurd (no_fault_again table.group_head c.args.line.now x _ c.in_err-check.ensures.fault refl whole e)

pub returns-clause-again : goal.returns-clause-again
returns-clause-again c =
    λ x whole e. ap Ok (read_again table.group_head c.args.line.now x _ c.group_head_at.ensures refl (same_group_head _ x) whole e)
