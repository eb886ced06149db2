use Rattle.std.proofs.Common.{◌∙◌, [], rules}
use Rattle.cwr_acknowledgement.proofs.AckLines.{message_ended}
use Rattle.cwr_acknowledgement.proofs.ack_line_writer.AckLineWriter.fill_message.Goals as goal

pub returns-clause-line : goal.returns-clause-line
returns-clause-line c =
    message_ended c.args.index c.args.detail c.args.fault.now c.put-9.new.line c.args.line.now c.spelled.result c.spelled-2.result c.spelled-3.result
    c.last_digits.result c.message_text.result.now
    (c.put-9.ensures.before [] ∙ c.put_padded.ensures.before _ ∙ c.put-8.ensures.before _ ∙ c.put-7.ensures.before _ ∙ c.put-6.ensures.before _
    ∙ c.put-5.ensures.before _ ∙ c.put-4.ensures.before _ ∙ c.put-3.ensures.before _ ∙ c.put-2.ensures.before _ ∙ c.put.ensures.before _)
    (c.put-9.ensures.len ∙ c.put_padded.ensures.len ∙ c.put-8.ensures.len ∙ c.put-7.ensures.len ∙ c.put-6.ensures.len ∙ c.put-5.ensures.len
    ∙ c.put-4.ensures.len ∙ c.put-3.ensures.len ∙ c.put-2.ensures.len ∙ c.put.ensures.len ∙ c.requires.length)
    c.spelled.ensures c.spelled-2.ensures c.spelled-3.ensures (search rules) c.last_digits.ensures c.message_text.ensures.text
