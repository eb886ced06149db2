use Rattle.std.proofs.Common.{refl, ap, Ok}
use Rattle.std.proofs.lemmas.Result.{err_from_is_err_and}
use Rattle.cwr_record.proofs.lemmas.RoundTrip.{read_again, no_fault_again}
use Rattle.cwr_record.proofs.SameRecords.{same_publisher}
use Rattle.cwr_record.specs.Publishers as table
use Rattle.cwr_record.proofs.publishers.read_publisher.Goals as goal

pub returns-in_err-check-clause-fault : goal.returns-in_err-check-clause-fault
returns-in_err-check-clause-fault c =
    let p = err_from_is_err_and c.from_residual.result c.from_residual.ensures.1 in
    rw (p.1, p.2) c.in_err-check.ensures.fault

pub returns-in_err-check-clause-again : goal.returns-in_err-check-clause-again
returns-in_err-check-clause-again c =
    λ x whole e. absurd (no_fault_again table.publisher c.args.line.now x _ c.in_err-check.ensures.fault refl whole e)

pub returns-clause-again : goal.returns-clause-again
returns-clause-again c =
    λ x whole e. ap Ok (read_again table.publisher c.args.line.now x _ c.publisher_at.ensures refl (same_publisher _ x) whole e)
