use Rattle.std.proofs.Common.{◌∙◌}
use Rattle.cwr_report.proofs.walk.line_of.Goals as goal

pub returns : goal.returns
returns c = c.go_to.ensures.line ∙ (cc)
