use Rattle.std.proofs.Common.{◌∙◌, []}
use Rattle.cwr_record.proofs.LineTexts.{fields_alone}
use Rattle.work_registry.proofs.register.writing.head_line.Goals as goal

pub returns : goal.returns
returns c =
    let fields = c.put_number-5.ensures.before [] ∙ c.put_number-4.ensures.before _ ∙ c.put-9.ensures.before _ ∙ c.put-8.ensures.before _ ∙ c.put_number-3.ensures.before _ ∙ c.put_number-2.ensures.before _ ∙ c.put_number.ensures.before _ ∙ c.put-7.ensures.before _ ∙ c.put-6.ensures.before _ ∙ c.put-5.ensures.before _ ∙ c.put-4.ensures.before _ ∙ c.put-3.ensures.before _ ∙ c.put-2.ensures.before _ ∙ c.put.ensures.before _ in
    fields_alone _ c.new-line.result _ (rw (c.code.ensures, c.code-2.ensures) at fields) c.new-line.ensures
