use Rattle.std.proofs.Common.{◌∙◌, []}
use Rattle.cwr_record.proofs.LineTexts.{fields_alone}
use Rattle.work_registry.proofs.register.writing.fault_line.Goals as goal

pub returns-clause-text : goal.returns-clause-text
returns-clause-text c = fields_alone _ c.new-line.result _ (c.put-3.ensures.before [] ∙ c.put-2.ensures.before _ ∙ c.put.ensures.before _) c.new-line.ensures
