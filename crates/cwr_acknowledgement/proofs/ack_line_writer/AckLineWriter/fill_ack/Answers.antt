use Rattle.std.proofs.Common.{◌∙◌, [], ap, rules}
use Rattle.cwr_field.specs.Number.{number_text}
use Rattle.cwr_record.specs.Lines.{line_of}
use Rattle.cwr_record.specs.Acknowledgement as table
use Rattle.cwr_acknowledgement.specs.AckLineWriter.{Form}
use Rattle.cwr_acknowledgement.specs.AckItem.{Item}
use Rattle.cwr_acknowledgement.specs.Acknowledgement.{ack_record, ended}
use Rattle.cwr_acknowledgement.proofs.AckLines.{ack_ended}
use Rattle.cwr_acknowledgement.proofs.ack_line_writer.AckLineWriter.fill_ack.Goals as goal

pub returns-clause-line : goal.returns-clause-line
returns-clause-line c =
    let form = c.self.inside in
    let item = c.item.inside in
    let spelled = c.self.invariant in
    let told : Item = record {
      group = item.group;
      sequence = item.sequence;
      kind = item.kind;
      title = item.title;
      number = item.number;
      status = item.status;
      work = item.work;
      faults = item.faults.now;
    } in
    ack_ended c.args.self.now.stamp c.args.self.now.header c.args.index told c.put-14.new.line c.args.line.now c.spelled.result form.creation_date
    form.creation_time c.spelled-2.result c.spelled-3.result c.code.result.now c.filled.result c.recipient_number.result form.processing_date c.code-2.result.now
    (c.put-14.ensures.before [] ∙ c.put-13.ensures.before _ ∙ c.put-12.ensures.before _ ∙ c.put-11.ensures.before _ ∙ c.put-10.ensures.before _
    ∙ c.put-9.ensures.before _ ∙ c.put-8.ensures.before _ ∙ c.put-7.ensures.before _ ∙ c.put-6.ensures.before _ ∙ c.put-5.ensures.before _
    ∙ c.put-4.ensures.before _ ∙ c.put-3.ensures.before _ ∙ c.put-2.ensures.before _ ∙ c.put.ensures.before _)
    (c.put-14.ensures.len ∙ c.put-13.ensures.len ∙ c.put-12.ensures.len ∙ c.put-11.ensures.len ∙ c.put-10.ensures.len ∙ c.put-9.ensures.len
    ∙ c.put-8.ensures.len ∙ c.put-7.ensures.len ∙ c.put-6.ensures.len ∙ c.put-5.ensures.len ∙ c.put-4.ensures.len ∙ c.put-3.ensures.len
    ∙ c.put-2.ensures.len ∙ c.put.ensures.len ∙ c.requires)
    c.spelled.ensures (spelled.0 ∙ ap (λ (x : Form). number_text 8 x.header.creation_date) c.self.view_is)
    (spelled.1 ∙ ap (λ (x : Form). number_text 6 x.header.creation_time) c.self.view_is) c.spelled-2.ensures c.spelled-3.ensures c.code.ensures (search rules)
    c.filled.ensures (search rules) c.recipient_number.ensures (spelled.2 ∙ ap (λ (x : Form). number_text 8 x.stamp.date) c.self.view_is) c.code-2.ensures
    ∙ ap (λ (x : Item). ended (line_of table.ack (ack_record c.args.self.now.stamp c.args.self.now.header c.args.index x))) c.item.view_is
