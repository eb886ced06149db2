use Rattle.std.proofs.Common.{refl, ap, Ok}
use Rattle.cwr_record.proofs.lemmas.RoundTrip.{read_again, no_fault_again}
use Rattle.cwr_record.proofs.SameRecords.{same_message}
use Rattle.cwr_record.specs.Acknowledgement as table
use Rattle.cwr_record.proofs.acknowledgement.read_message.Goals as goal

pub returns-in_err-check-clause-again : goal.returns-in_err-check-clause-again
returns-in_err-check-clause-again c =
    λ x whole e. absurd (no_fault_again table.message c.args.line.now x _ c.in_err-check.ensures.fault refl whole e)

pub returns-clause-again : goal.returns-clause-again
returns-clause-again c =
    λ x whole e. ap Ok (read_again table.message c.args.line.now x _ c.message_at.ensures refl (same_message _ x) whole e)
