use Rattle.cwr_report.proofs.FindingPlaces.{listed_from, line_of}
use Rattle.cwr_report.proofs.laws.findings_are_of_their_lines.Goals as goal

pub returns-clause-listed : goal.returns-clause-listed
returns-clause-listed c = λ submitter before after t. listed_from submitter before after t

pub returns-clause-line : goal.returns-clause-line
returns-clause-line c = λ text f before after t fault formed among is. line_of text f before after t fault formed among is
