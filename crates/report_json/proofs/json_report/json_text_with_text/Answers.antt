use Rattle.report_json.proofs.json_report.json_text_with_text.Goals as goal

pub returns-clause-text : goal.returns-clause-text
returns-clause-text c = c.json_report_line.ensures
