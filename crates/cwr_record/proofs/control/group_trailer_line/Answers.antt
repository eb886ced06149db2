use Rattle.std.proofs.Common.{◌∙◌, []}
use Rattle.cwr_record.proofs.LineTexts.{fields_alone}
use Rattle.cwr_record.proofs.control.group_trailer_line.Goals as goal

pub returns-clause-line : goal.returns-clause-line
returns-clause-line c =
    fields_alone _ c.new-line.result _ (c.put-5.ensures.before [] ∙ c.put-4.ensures.before _ ∙ c.put-3.ensures.before _ ∙ c.put-2.ensures.before _ ∙ c.put.ensures.before _) c.new-line.ensures
