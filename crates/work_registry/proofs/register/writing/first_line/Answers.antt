use Rattle.std.proofs.Common.{◌∙◌, []}
use Rattle.cwr_record.proofs.LineTexts.{fields_alone}
use Rattle.work_registry.proofs.register.writing.first_line.Goals as goal

pub returns : goal.returns
returns c = fields_alone _ c.new-line.result _ (c.put-2.ensures.before [] ∙ c.put.ensures.before _) c.new-line.ensures
