use Rattle.std.proofs.Common.{◌∙◌}
use Rattle.cwr_verify.proofs.Acknowledging.{read_by_fields}
use Rattle.cwr_verify.proofs.ack_status.is_ack.Goals as goal

pub returns : goal.returns
returns c = c.can_be_read.ensures ∙ read_by_fields c.args.line.now
