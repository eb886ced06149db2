use Rattle.std.proofs.Common.{refl, ap, Ok}
use Rattle.cwr_record.proofs.lemmas.RoundTrip.{read_again, no_fault_again}
use Rattle.cwr_record.proofs.SameRecords.{same_file_trailer}
use Rattle.cwr_record.specs.Control as table
use Rattle.cwr_record.proofs.control.read_file_trailer.Goals as goal

pub returns-in_err-check-clause-again : goal.returns-in_err-check-clause-again
returns-in_err-check-clause-again c =
    λ x whole e. absurd (no_fault_again table.file_trailer c.args.line.now x _ c.in_err-check.ensures.fault refl whole e)

pub returns-clause-again : goal.returns-clause-again
returns-clause-again c =
    λ x whole e. ap Ok (read_again table.file_trailer c.args.line.now x _ c.file_trailer_at.ensures refl (same_file_trailer _ x) whole e)
