use Rattle.std.proofs.Common.{rules}
use Rattle.cwr_acknowledgement.proofs.ack_line_writer.AckLineWriter.new.Goals as goal

pub invariant_of-result : goal.invariant_of-result
invariant_of-result c = search rules
