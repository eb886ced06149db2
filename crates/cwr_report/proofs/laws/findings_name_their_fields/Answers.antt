use Rattle.cwr_report.proofs.Naming.{told}
use Rattle.cwr_report.proofs.laws.findings_name_their_fields.Goals as goal

pub returns : goal.returns
returns c = λ submitter first t fault is names. told submitter t.kind t.lines fault is names
