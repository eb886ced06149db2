use Rattle.std.proofs.Common.{◌∙◌, ◌++◌, ap}
use Rattle.cwr_record.proofs.acknowledgement.write_ack.Goals as goal

pub returns-clause-ok : goal.returns-clause-ok
returns-clause-ok g c = c.in_ok-extend_from_slice.ensures.items ∙ ap (λ xs. c.args.out.now.items ++ xs) (c.bytes.ensures.line ∙ c.ack_line.ensures.line)
